-- A digest taken over one entry more; and what is written of a list, one entry after the other.
-- Assumes nothing.
use Rattle.std.proofs.Common.{◌≡◌, ℕ, ◌+◌, ◌*◌, ◌%◌, ◌<◌, List, [], ◌∷◌, ◌++◌, length, get_or, drop, refl, sym, ap, ◌∙◌, append-nil}
use Rattle.std.specs.Prelude.{Option, Some, None, Result, Ok}
use Rattle.std.specs.Option.{IfSome}
use Rattle.std.specs.declared.fmt.Error.{Error}
use Rattle.std.specs.declared.fmt.Formatter.{Formatter}
use Rattle.std.specs.Fmt.{◌++?◌, HasWritten, IsPlainFormatter, DisplaysOnOk}
use Rattle.std.proofs.Output.{then_text_assoc, has_written_append}
use Rattle.std.proofs.lemmas.List.{drop_more}
use Rattle.cases.specs.Printing.{spaced, Digests}

-- the entry x at i, whose number is v, takes the digest from s to w
pub digests_more : {T : Type 0} (Is : T → ℕ → Type 0) (more : ℕ) (xs : List T) (i : ℕ) (x : T) (v s w r : ℕ) → i < length xs → x ≡ get_or xs i x
    → Is x v → w ≡ (s * 31 + v + more) % 65521 → Digests Is more (drop (i + 1) xs) w r → Digests Is more (drop i xs) s r
unfolding Digests
digests_more Is more xs i x v s w r within here is step rest =
    rw (drop_more xs i x within, ← here) (v, is, rw step at rest)

-- what is printed of a list with one entry more
pub spaced_more : {T : Type 0} (text : T → Option (List ℕ)) (xs : List T) (x : T) → spaced text (xs ++ x ∷ []) ≡ spaced text xs ++? Some (32 ∷ []) ++? text x
unfolding spaced
spaced_more text [] x = last (text x)
  where
    last : (o : Option (List ℕ)) → (Some (32 ∷ []) ++? o ++? Some []) ≡ (Some [] ++? Some (32 ∷ []) ++? o)
    last None = refl
    last (Some bs) = ap (λ (l : List ℕ). Some (32 ∷ l)) (append-nil bs)
spaced_more text (y ∷ ys) x =
    ap (λ (o : Option (List ℕ)). Some (32 ∷ []) ++? text y ++? o) (spaced_more text ys x)
    ∙ sym (ap (λ (o : Option (List ℕ)). Some (32 ∷ []) ++? o) (then_text_assoc (text y) (spaced text ys) (Some (32 ∷ []) ++? text x)))
    ∙ sym (then_text_assoc (Some (32 ∷ [])) (text y ++? spaced text ys) (Some (32 ∷ []) ++? text x))

module _ {W : Type 0} (took : W → List ℕ → W → Type 0) where
  -- one write more
  pub written_more : (f g h : Formatter W) (u : Unit {0}) (o p : Option (List ℕ)) → IfSome o (λ bs. HasWritten took f bs g)
      → DisplaysOnOk took g (Ok u) p h → IfSome (o ++? p) (λ bs. HasWritten took f bs h)
  written_more f g h u None p x y = tt
  written_more f g h u (Some a) None x y = tt
  written_more f g h u (Some a) (Some b) x y = has_written_append took f a g b h x (y x.plain refl)

  -- all is written
  pub written_all : (f g : Formatter W) (r : Result (Unit {0}) Error) (o : Option (List ℕ)) → (IsPlainFormatter f → IfSome o (λ bs. HasWritten took f bs g))
      → DisplaysOnOk took f r o g
  written_all f g r None k = tt
  written_all f g r (Some a) k = λ p ok. k p
