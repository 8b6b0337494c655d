-- What is found after the rows: nothing, a resolve line, or neither.
-- Assumes nothing.
use mathlib.Core.Path.{◌≡◌, refl, ap, ◌∙◌}
use mathlib.Core.List.{List, [], ◌++◌, append-nil}
use mathlib.Core.Bool.{Bool, true, false}
use Prim.Native.Nat.{ℕ, ◌+◌, ◌≤◌}
use native.Mathlib.Omega.{arith}
use lib.ListN.{length, drop, length-drop, length-append, drop_of_length-le}
use Rattle.choices.specs.declared.Resolve.{Resolve}
use Rattle.choices.specs.declared.Resolve.TheVariants.{Acctran, Deltran}
use Rattle.numbers.specs.Numbers.{starts_at}
use Rattle.numbers.proofs.Round.{positive, key_back, key_read}
use Rattle.forms.specs.Sheets.{resolve_line}
use Rattle.forms.specs.Parts.{NoResolve, Followed}
use Rattle.forms.proofs.Faults.{resolve_length}

resolve_positive : (r : Resolve) → positive (resolve_line r) ≡ true
unfolding positive
resolve_positive Acctran = refl
resolve_positive Deltran = refl

module _ (text : List ℕ) (i : ℕ) where
  pub end_nothing : i ≡ length text → drop i text ≡ []
  end_nothing e = let past : length text ≤ i = omega arith in drop_of_length-le text past

  module _ (r : Resolve) (s : starts_at text i (resolve_line r) ≡ true) where
    line_and_more : drop i text ≡ resolve_line r ++ drop (i + length (resolve_line r)) text
    line_and_more = key_back (resolve_line r) text i (resolve_positive r) s

    pub end_choice : i + 16 ≡ length text → drop i text ≡ resolve_line r
    end_choice e =
        let past : length text ≤ i + length (resolve_line r) = omega (arith, resolve_length r) in
        line_and_more
        ∙ ap (λ (l : List ℕ). resolve_line r ++ l) (drop_of_length-le text past)
        ∙ append-nil (resolve_line r)

    pub end_followed : i ≤ length text → (i + 16 ≡ length text → ⊥) → Followed (drop i text)
    end_followed inside n =
        record {
          choice_said = r;
          more = drop (i + length (resolve_line r)) text;
          rest_is = line_and_more;
          some = λ e. n (omega (
            arith,
            resolve_length r,
            ap length e,
            ap length line_and_more,
            length-drop i text,
            length-append (resolve_line r) (drop (i + length (resolve_line r)) text),
          ));
        }

  pub end_other : i ≤ length text → (i ≡ length text → ⊥) → starts_at text i (resolve_line Acctran) ≡ false
      → starts_at text i (resolve_line Deltran) ≡ false → NoResolve (drop i text)
  end_other inside n a d =
      record {
        some = λ e. n (omega (arith, ap length e, length-drop i text));
        other = other;
      }
    where
      no : (b : Bool) → b ≡ true → b ≡ false → ⊥
      no b e f = cc

      other : (r : Resolve) (more : List ℕ) → drop i text ≡ resolve_line r ++ more → ⊥
      other Acctran more e = no (starts_at text i (resolve_line Acctran)) (key_read (resolve_line Acctran) text i more e) a
      other Deltran more e = no (starts_at text i (resolve_line Deltran)) (key_read (resolve_line Deltran) text i more e) d
