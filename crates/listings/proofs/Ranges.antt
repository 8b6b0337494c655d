-- Ranges in print, one after another.
-- Assumes nothing.
use mathlib.Core.Path.{◌≡◌, refl, sym, ap, ◌∙◌}
use mathlib.Core.List.{List, [], ◌∷◌, ◌++◌, append_assoc}
use Prim.Native.Nat.{ℕ, ◌+◌, ◌≤◌, ◌<◌}
use native.Mathlib.Numerals.{add-one}
use native.Mathlib.Omega.{arith}
use lib.ListN.{length, get_or, drop, drop_of_length-le, length-append}
use lib.Seq.{sets, drop-cons}
use Rattle.printing.specs.Writing.{Written}
use Rattle.printing.proofs.Laws.{written_both}
use Rattle.fields.specs.Fields.{byte, field}
use Rattle.fields.proofs.Pieces.{written-size, still}
use Rattle.listings.specs.Ranges.{range, more_ranges, ranges}

-- the first range, and the others
pub ranges-first : (lows highs : List ℕ) → 0 < length lows → length lows ≡ length highs
    → ranges lows highs ≡ range (get_or lows 0 0) (get_or highs 0 0) ++ more_ranges (drop 1 lows) (drop 1 highs)
unfolding ranges
ranges-first [] highs h e = absurd (omega arith)
ranges-first (l ∷ ls) [] h e = absurd (omega arith)
ranges-first (l ∷ ls) (x ∷ xs) h e = refl

-- a line of ranges, piece by piece
pub ranges-line : (key lows highs : List ℕ) → 0 < length lows → length lows ≡ length highs
    → field key (ranges lows highs)
    ≡ key ++ (range (get_or lows 0 0) (get_or highs 0 0) ++ (more_ranges (drop 1 lows) (drop 1 highs) ++ byte 10))
ranges-line key lows highs h e =
    ap (λ (v : List ℕ). key ++ (v ++ byte 10)) (ranges-first lows highs h e)
    ∙ ap (λ (v : List ℕ). key ++ v) (append_assoc (range (get_or lows 0 0) (get_or highs 0 0)) (more_ranges (drop 1 lows) (drop 1 highs)) (byte 10))

-- a comma, a range, and those that follow it
pub more-step : (lows highs : List ℕ) (k : ℕ) → k < length lows → length lows ≡ length highs
    → more_ranges (drop k lows) (drop k highs)
    ≡ (byte 44 ++ range (get_or lows k 0) (get_or highs k 0)) ++ more_ranges (drop (k + 1) lows) (drop (k + 1) highs)
unfolding more_ranges
more-step lows highs k h e =
    let g : k < length highs = omega arith in
    rw (add-one, drop-cons lows k 0 h, drop-cons highs k 0 g)

pub more_end : (lows highs : List ℕ) (k : ℕ) → length lows ≤ k → more_ranges (drop k lows) highs ≡ []
unfolding more_ranges
more_end lows highs k h = rw (drop_of_length-le lows h)

-- ---- as the loop writes them

-- what is still to be written after k ranges, from `next` on, gives what all of it gives, and has its room
pub record Writing (start : List ℕ) (at : ℕ) (lows highs out : List ℕ) (next k : ℕ) : Type 0 where
  pub size : length out ≡ length start
  pub list : sets start at (more_ranges (drop 1 lows) (drop 1 highs)) ≡ sets out next (more_ranges (drop k lows) (drop k highs))
  pub end : at + length (more_ranges (drop 1 lows) (drop 1 highs)) ≡ next + length (more_ranges (drop k lows) (drop k highs))
  pub room : next + length (more_ranges (drop k lows) (drop k highs)) ≤ length out

module _ (start : List ℕ) (at : ℕ) (lows highs : List ℕ) (same : length lows ≡ length highs) (out : List ℕ) (next k : ℕ)
    (w : Writing start at lows highs out next k) where
  pub step_room : k < length lows
      → next + length (byte 44 ++ range (get_or lows k 0) (get_or highs k 0)) ≤ length out
  step_room h =
      omega (
        arith,
        w.room,
        ap length (more-step lows highs k h same),
        length-append (byte 44 ++ range (get_or lows k 0) (get_or highs k 0)) (more_ranges (drop (k + 1) lows) (drop (k + 1) highs)),
      )

  pub stepped : k < length lows → (mid out' : List ℕ) (first next' : ℕ) → Written out mid next first (byte 44)
      → Written mid out' first next' (range (get_or lows k 0) (get_or highs k 0)) → Writing start at lows highs out' next' (k + 1)
  stepped h mid out' first next' a b =
      let piece : List ℕ = byte 44 ++ range (get_or lows k 0) (get_or highs k 0) in
      let more : List ℕ = more_ranges (drop (k + 1) lows) (drop (k + 1) highs) in
      let both : Written out out' next next' piece = written_both (byte 44) (range (get_or lows k 0) (get_or highs k 0)) out mid out' next first next' a b
      in
      let long = length-append piece more in
      let step = ap length (more-step lows highs k h same) in
      record {
        size = written-size both ∙ w.size;
        list = w.list ∙ ap (sets out next) (more-step lows highs k h same) ∙ still out out' next next' piece more both;
        end = omega (arith, w.end, both.next_is);
        room = omega (arith, w.room, both.next_is, written-size both);
      }

  pub ended : length lows ≤ k → Written start out at next (more_ranges (drop 1 lows) (drop 1 highs))
  ended h =
      let none : more_ranges (drop k lows) (drop k highs) ≡ [] = more_end lows (drop k highs) k h in
      record {
        list = sym (w.list ∙ ap (sets out next) none);
        next_is = omega (arith, w.end, ap length none);
      }
