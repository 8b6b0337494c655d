-- A character's stretch is lent on from the middle of the kept table, and put back there.
-- Assumes nothing.
use mathlib.Core.Path.{◌≡◌, sym, ◌∙◌, ap, subst}
use mathlib.Core.List.{List, ◌++◌}
use Prim.Native.Nat.{ℕ, ◌+◌, ◌-◌, ◌*◌, ◌≤◌, ◌<◌}
use native.Mathlib.Omega.{arith}
use lib.ListN.{length, take, drop, take-append-drop}
use Rattle.std.specs.Prelude.{Result, Ok, Err}
use Rattle.refusals.specs.declared.Refusal.{Refusal}
use Rattle.tables.specs.Tables.{stretch, with_stretch}
use Rattle.tables.proofs.Stretches.{stretch_in, with_long, with_here, with_other}
use Rattle.entries.specs.Entries.{AllCharacters}
use Rattle.entries.proofs.Searching as searching
use Rattle.repairs.specs.Repairs.{Correctable}
use Rattle.corrections.specs.Corrections.{Corrected, Corrects}
use Rattle.table_corrections.specs.TableCorrections.{CorrectedIn, CorrectsIn, CorrectableIn}

module _ (n c t j : ℕ) (tree matrix lows highs lengths : List ℕ) (G : CorrectableIn n c t j tree matrix lows highs lengths) where
  -- where the stretch begins
  abbrev start : ℕ
  start = (j - 1) * (n - 2)

  all : AllCharacters n c lows highs lengths
  all = record { least = G.cell.sized.least; most = G.cell.sized.most; few = G.cell.few; long = G.long }

  last : j - 1 < c
  last = omega (arith, G.cell.character)

  pub ends_in : (start + (n - 2) ≤ length lows) × (start + (n - 2) ≤ length highs) × (start + (n - 2) ≤ length lengths)
  ends_in = searching.ends_in n c lows highs lengths all (j - 1) last

  pub places_small : start + (n - 2) ≤ 131072
  places_small = searching.places_small n c lows highs lengths all (j - 1) last

  -- ---- lent on; q is how long the stretch is, said by its two ends

  pub correctable : (q : ℕ) → q ≡ n - 2
      → Correctable n c t j tree matrix (take q (drop start lows)) (take q (drop start highs)) (take q (drop start lengths))
  correctable q e =
      record { cell = G.cell; lists = searching.one-character n c lows highs lengths all (j - 1) last q e }

  -- ---- put back

  whole_again : (w : ℕ) (entries part : List ℕ) → part ≡ stretch w entries j → with_stretch w entries j part ≡ entries
  whole_again w entries part e =
      ap (λ p. take ((j - 1) * w) entries ++ (p ++ drop w (drop ((j - 1) * w) entries))) e
      ∙ ap (λ p. take ((j - 1) * w) entries ++ p) (take-append-drop w (drop ((j - 1) * w) entries))
      ∙ take-append-drop ((j - 1) * w) entries

  module _ (s : ℕ) (matrix' pl ph ps : List ℕ) where
    -- the three lists with the stretch put back
    abbrev L : List ℕ
    L = with_stretch (n - 2) lows j pl

    abbrev H : List ℕ
    H = with_stretch (n - 2) highs j ph

    abbrev Z : List ℕ
    Z = with_stretch (n - 2) lengths j ps

    in_table : (entries : List ℕ) → length entries ≡ (n - 2) * c → (i : ℕ) → 1 ≤ i → i ≤ c → (i - 1) * (n - 2) + (n - 2) ≤ length entries
    in_table entries e i p q = omega (arith, stretch_in (n - 2) c i p q)

    corrected : (k : ℕ)
        → Corrected n c t j s tree matrix (stretch (n - 2) lows j) (stretch (n - 2) highs j) (stretch (n - 2) lengths j) matrix' pl ph ps k
        → CorrectedIn n c t j s tree matrix lows highs lengths matrix' L H Z k
    corrected k C =
        record {
          here = rw (with_here (n - 2) lows j pl low_in low_long)
              (rw (with_here (n - 2) highs j ph high_in high_long) (rw (with_here (n - 2) lengths j ps length-in length_long) C));
          long =
              record {
                low_long = with_long (n - 2) lows j pl low_in low_long ∙ G.long.low_long;
                high_long = with_long (n - 2) highs j ph high_in high_long ∙ G.long.high_long;
                length_long = with_long (n - 2) lengths j ps length-in length_long ∙ G.long.length_long;
              };
          others = λ i p q d. (
            with_other (n - 2) lows j pl low_in low_long i G.cell.character.0 p d (in_table lows G.long.low_long i p q),
            with_other (n - 2) highs j ph high_in high_long i G.cell.character.0 p d (in_table highs G.long.high_long i p q),
            with_other (n - 2) lengths j ps length-in length_long i G.cell.character.0 p d (in_table lengths G.long.length_long i p q),
          );
        }
      where
        low_in : start + (n - 2) ≤ length lows
        low_in = ends_in.0

        high_in : start + (n - 2) ≤ length highs
        high_in = ends_in.1

        length-in : start + (n - 2) ≤ length lengths
        length-in = ends_in.2

        low_long : length pl ≡ n - 2
        low_long = C.mended.path.low_long

        high_long : length ph ≡ n - 2
        high_long = C.mended.path.high_long

        length_long : length ps ≡ n - 2
        length_long = C.mended.path.length_long

    corrects_here : (r : Result ℕ Refusal)
        → Corrects n c t j s tree matrix (stretch (n - 2) lows j) (stretch (n - 2) highs j) (stretch (n - 2) lengths j) matrix' pl ph ps r
        → CorrectsIn n c t j s tree matrix lows highs lengths matrix' L H Z r
    corrects_here (Ok k) C = corrected k C
    corrects_here (Err r) (h, m, l, g, z) =
        (h, m, whole_again (n - 2) lows pl l, whole_again (n - 2) highs ph g, whole_again (n - 2) lengths ps z)

    pub corrects : (q : ℕ) → q ≡ n - 2 → (r : Result ℕ Refusal)
        → Corrects n c t j s tree matrix (take q (drop start lows)) (take q (drop start highs)) (take q (drop start lengths)) matrix' pl ph ps r
        → CorrectsIn n c t j s tree matrix lows highs lengths matrix' (take start lows ++ (pl ++ drop q (drop start lows)))
        (take start highs ++ (ph ++ drop q (drop start highs))) (take start lengths ++ (ps ++ drop q (drop start lengths))) r
    corrects q e r =
        subst
        (λ w. Corrects n c t j s tree matrix (take w (drop start lows)) (take w (drop start highs)) (take w (drop start lengths)) matrix' pl ph ps r
        → CorrectsIn n c t j s tree matrix lows highs lengths matrix' (take start lows ++ (pl ++ drop w (drop start lows)))
        (take start highs ++ (ph ++ drop w (drop start highs))) (take start lengths ++ (ps ++ drop w (drop start lengths))) r)
        (sym e) (corrects_here r)
