-- What was read of a sheet is its front, of 32,769 bytes at most.
use Rattle.std.proofs.Common.{◌≡◌, ℕ, ◌≤◌, ◌<◌, List, [], ◌++◌, length, take, arith, sym, ap, ◌∙◌}
use Rattle.std.proofs.Common.{subst, IfSome, OnOk, None, Some, Ok, Err, take_all, append-nil}
use Rattle.std.specs.declared.option.Option.{Option}
use Rattle.std.specs.declared.result.Result.{Result}
use Rattle.std.specs.Io.KnownBytes.{Consumes, IsAtEnd}
use native.Mathlib.Decide.{dec_le}
use Rattle.std.proofs.Math.Seq.{take-append_seam}
use Rattle.std.proofs.lemmas.List.{length-take-le}
use Rattle.report.specs.Gains.{GainsReport}
use Rattle.report.proofs.answer.Goals as goal

-- the slice is full, or the input was read to its end
front : (most : ℕ) (before after : Option (List ℕ)) (text : List ℕ) (size : ℕ) → length text ≡ most → size ≤ length text
    → Consumes before after (take size text) → (size < length text → IsAtEnd after)
    → IfSome before (λ sheet. take size text ≡ take most sheet)
front most None after text size full within bytes end = tt
front most (Some xs) None text size full within bytes end = absurd bytes
front most (Some xs) (Some ys) text size full within bytes end = go (dec_le most size)
  where
    long : length (take size text) ≡ size
    long = length-take-le size text within

    go : Dec (most ≤ size) → take size text ≡ take most xs
    go (yes filled) =
        let same : most ≡ length (take size text) = omega (arith, long) in
        sym (ap (take most) bytes ∙ ap (λ m. take m (take size text ++ ys)) same ∙ take-append_seam (take size text) ys)
    go (no short) =
        let none : ys ≡ [] = end (omega arith) in
        sym
        (ap (take most) (bytes ∙ ap (λ l. take size text ++ l) none ∙ append-nil (take size text))
        ∙ take_all most (take size text) (omega (arith, long)))

-- what is written of the front is written of the sheet
of_sheet : {E : Type 0} (r : Result (Unit {0}) E) (before : Option (List ℕ)) (text : List ℕ) (P Q : Type 0) (Gains : List ℕ → Type 0)
    → (P → IfSome before (λ sheet. text ≡ take 32769 sheet)) → OnOk r (Q → Gains text)
    → OnOk r (IfSome before (λ sheet. P → Q → Gains (take 32769 sheet)))
of_sheet (Ok done) None text P Q Gains known gains = tt
of_sheet (Ok done) (Some sheet) text P Q Gains known gains = λ full room. subst Gains (known full) (gains room)
of_sheet (Err e) before text P Q Gains known gains = tt

pub returns : goal.returns
returns g c =
    of_sheet c.write_report.result (g.R.Read.remaining c.args.input.now) _ _ _
    (λ sheet. GainsReport sheet (g.W.Write.contents c.args.output.now) (g.W.Write.contents c.write_report.new.output))
    (λ full. front 32769 _ _ _ _ (c.read_full.auto.text ∙ full) c.in_ok-size.ensures.within c.in_ok-size.ensures.bytes c.in_ok-size.ensures.end)
    c.write_report.ensures
