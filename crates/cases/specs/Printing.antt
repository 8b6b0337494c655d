-- What is printed of a list: each entry with a blank before it; and the digest of a list.
-- Assumes nothing.
use Rattle.std.specs.Prelude.{◌≡◌, List, [], ◌∷◌, ℕ, ◌+◌, ◌*◌, ◌%◌, Option, Some}
use Rattle.std.specs.Fmt.{◌++?◌}

-- each entry with a blank before it, where text says how an entry is printed
unfoldable pub spaced : {T : Type 0} → (T → Option (List ℕ)) → List T → Option (List ℕ)
spaced text [] = Some []
spaced text (x ∷ xs) = Some (32 ∷ []) ++? text x ++? spaced text xs

-- r is the digest of the list, where the digest of what stands before it is s, and Is says what number an entry is
unfoldable pub Digests : {T : Type 0} → (T → ℕ → Type 0) → ℕ → List T → ℕ → ℕ → Type 0
Digests Is more [] s r = r ≡ s
Digests Is more (x ∷ xs) s r = (v : ℕ) × Is x v × Digests Is more xs ((s * 31 + v + more) % 65521) r
