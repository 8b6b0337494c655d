-- The table, built one character after the other.
-- Assumes nothing.
use mathlib.Core.Path.{◌≡◌, sym, ◌∙◌, ap, subst}
use mathlib.Core.List.{List, ◌++◌}
use Prim.Native.Nat.{ℕ, ◌+◌, ◌-◌, ◌*◌, ◌≤◌, ◌<◌, min}
use native.Mathlib.Nat.{mul-le-mul_right}
use native.Mathlib.Decide.{ℕ_discrete}
use native.Mathlib.Omega.{arith}
use lib.ListN.{length, take, drop}
use Rattle.parsimony.specs.Matrix.{state_of}
use Rattle.parsimony.proofs.Characters.{first-means}
use Rattle.shapes.specs.Shape.{Filled}
use Rattle.shapes.specs.Filling.{Orders}
use Rattle.rows.specs.Rows.{Room}
use Rattle.passes.specs.Passes.{Passable, Passed}
use Rattle.entry_lists.specs.EntryLists as lists
use Rattle.extents.specs.Extents.{Cells}
use Rattle.totals.specs.Totals.{Given}
use Rattle.entry_lists.proofs.Passed.{one_settles, one-fits}
use Rattle.tables.specs.Tables.{stretch, with_stretch, TableLong, TableMeans, Settles, BuiltTo, TakenAll}
use Rattle.tables.proofs.Stretches.{stretch_in, stretch-long, with_long, with_here, with_other}

-- an accepted table of this shape, a matrix for its taxa, and room for their table
pub record Builds (n c ρ δ : ℕ) (tree left right matrix lows highs lengths : List ℕ) : Type 0 where
  pub orders : Orders n δ tree ρ left right
  pub cells : Cells n c matrix
  pub long : TableLong n c lows highs lengths

pub builds : {n c ρ δ : ℕ} {tree left right matrix lows highs lengths : List ℕ} → Given n c ρ δ tree matrix × TableLong n c lows highs lengths
    → Filled n tree left right → Builds n c ρ δ tree left right matrix lows highs lengths
builds (given, long) shape =
    record { orders = record { sized = given.sized; accepted = given.accepted; shape = shape }; cells = given.cells; long = long }

-- the block after the first k characters has w of them and is settled
pub record Takes (n c δ : ℕ) (left right matrix : List ℕ) (k w : ℕ) (bl bh bs : List ℕ) : Type 0 where
  pub taxa : (3 ≤ n) × (n ≤ 256)
  pub few : w ≤ 8
  pub within : k + w ≤ c
  pub most : c ≤ 512
  pub block : Passed n c k w δ left right matrix bl bh bs

-- as far as the first k characters, with a block to go on with
pub record BuildsTo (n c ρ δ : ℕ) (left right matrix : List ℕ) (k : ℕ) (bl bh bs lows highs lengths : List ℕ) : Type 0 where
  pub within : k ≤ c
  pub room : Room bl bh bs
  pub built : BuiltTo n c ρ δ left right matrix k lows highs lengths

-- as many characters, said otherwise
pub builds_at : {n c ρ δ : ℕ} {left right matrix : List ℕ} {k k' : ℕ} {bl bh bs lows highs lengths : List ℕ} → k ≡ k'
    → BuildsTo n c ρ δ left right matrix k bl bh bs lows highs lengths → BuildsTo n c ρ δ left right matrix k' bl bh bs lows highs lengths
builds_at {n} {c} {ρ} {δ} {left} {right} {matrix} {k} {k'} {bl} {bh} {bs} {lows} {highs} {lengths} e B =
    subst (λ j. BuildsTo n c ρ δ left right matrix j bl bh bs lows highs lengths) e B

-- ---- one character more

module _ {n c ρ δ : ℕ} {left right matrix : List ℕ} {past w : ℕ} {bl bh bs : List ℕ} (S : Takes n c δ left right matrix past w bl bh bs) where
  module _ {i : ℕ} (l : i < w) {lows highs lengths : List ℕ} (B : BuiltTo n c ρ δ left right matrix (past + i) lows highs lengths) where
    abbrev j : ℕ
    j = past + i + 1

    this : j - 1 ≡ past + i
    this = omega arith

    in_lows : (past + i) * (n - 2) + (n - 2) ≤ length lows
    in_lows = omega (arith, room, B.long.low_long)
      where
        room : (past + i) * (n - 2) + (n - 2) ≤ (n - 2) * c
        room = subst (λ k. k * (n - 2) + (n - 2) ≤ (n - 2) * c) this (stretch_in (n - 2) c j (omega arith) (omega (arith, S.within)))

    in_highs : (past + i) * (n - 2) + (n - 2) ≤ length highs
    in_highs = omega (arith, in_lows, B.long.low_long, B.long.high_long)

    in_lengths : (past + i) * (n - 2) + (n - 2) ≤ length lengths
    in_lengths = omega (arith, in_lows, B.long.low_long, B.long.length_long)

    -- the places fit a machine word
    pub places_small : (past + i) * (n - 2) + (n - 2) ≤ 131072
    places_small = omega (arith, in_lows, B.long.low_long, rows, columns)
      where
        rows : (n - 2) * c ≤ 254 * c
        rows = mul-le-mul_right c (omega (arith, S.taxa))

        columns : 254 * c ≤ 130048
        columns = omega (arith, S.most)

    pub ends_in : ((past + i) * (n - 2) + (n - 2) ≤ length lows) × ((past + i) * (n - 2) + (n - 2) ≤ length highs)
        × ((past + i) * (n - 2) + (n - 2) ≤ length lengths)
    ends_in = (in_lows, in_highs, in_lengths)

    -- q is how long the stretch is, said by its two ends
    module _ {q : ℕ} (e : q ≡ n - 2) where
      part_takes : (entries : List ℕ) → (past + i) * (n - 2) + (n - 2) ≤ length entries
          → lists.Takes n w (i + 1) (take q (drop ((past + i) * (n - 2)) entries))
      part_takes entries h =
          record {
            least = S.taxa.0;
            most = S.taxa.1;
            few = S.few;
            some = omega arith;
            one = omega arith;
            long = ap (λ k. length (take k (drop ((past + i) * (n - 2)) entries))) e
                ∙ subst (λ k. length (take (n - 2) (drop (k * (n - 2)) entries)) ≡ n - 2) this
                (stretch-long (n - 2) entries j (subst (λ k. k * (n - 2) + (n - 2) ≤ length entries) (sym this) h));
          }

    module _ {pl ph ps : List ℕ} (T : TakenAll n w (i + 1) bl bh bs pl ph ps) where
      -- the three lists with the stretch written
      abbrev L : List ℕ
      L = with_stretch (n - 2) lows j pl

      abbrev H : List ℕ
      H = with_stretch (n - 2) highs j ph

      abbrev Z : List ℕ
      Z = with_stretch (n - 2) lengths j ps

      fit : (entries : List ℕ) → (past + i) * (n - 2) + (n - 2) ≤ length entries → (j - 1) * (n - 2) + (n - 2) ≤ length entries
      fit entries h = subst (λ k. k * (n - 2) + (n - 2) ≤ length entries) (sym this) h

      long_after : TableLong n c L H Z
      long_after =
          record {
            low_long = with_long (n - 2) lows j pl (fit lows in_lows) T.low_ends.long ∙ B.long.low_long;
            high_long = with_long (n - 2) highs j ph (fit highs in_highs) T.high_ends.long ∙ B.long.high_long;
            length_long = with_long (n - 2) lengths j ps (fit lengths in_lengths) T.below.long ∙ B.long.length_long;
          }

      settled_here : (tree : List ℕ) (O : Orders n δ tree ρ left right)
          → Settles n c j tree matrix (stretch (n - 2) L j) (stretch (n - 2) H j) (stretch (n - 2) Z j)
      settled_here tree O =
          rw (with_here (n - 2) lows j pl (fit lows in_lows) T.low_ends.long)
          (rw (with_here (n - 2) highs j ph (fit highs in_highs) T.high_ends.long)
          (rw (with_here (n - 2) lengths j ps (fit lengths in_lengths) T.below.long)
          (subst (λ x. Settles n c x tree matrix pl ph ps) next
          (record {
            fits =
                λ v lo hi. (one-fits O (S.block tree ρ O) (i + 1) (omega arith) (omega arith)
                T.low_ends T.high_ends T.below v lo hi).0;
            pass = one_settles O (S.block tree ρ O) (i + 1) (omega arith) (omega arith)
                T.low_ends T.high_ends T.below;
          }))))
        where
          next : past + (i + 1) ≡ j
          next = omega arith

      built-more : BuiltTo n c ρ δ left right matrix (past + i + 1) L H Z
      built-more = record { long = long_after; settled = λ tree O k p q. at tree O k p q (ℕ_discrete k j) }
        where
          within : (k : ℕ) → k < j → (entries : List ℕ) → 1 ≤ k → length entries ≡ (n - 2) * c → (k - 1) * (n - 2) + (n - 2) ≤ length entries
          within k m entries p e = omega (arith, stretch_in (n - 2) c k p (omega (arith, S.within)))

          at : (tree : List ℕ) (O : Orders n δ tree ρ left right) (k : ℕ) → 1 ≤ k → k ≤ j → Dec (k ≡ j)
              → Settles n c k tree matrix (stretch (n - 2) L k) (stretch (n - 2) H k) (stretch (n - 2) Z k)
          at tree O k p q (yes e) = rw e (settled_here tree O)
          at tree O k p q (no e) =
              rw (with_other (n - 2) lows j pl (fit lows in_lows) T.low_ends.long k (omega arith) p e
              (within k (omega arith) lows p B.long.low_long))
              (rw (with_other (n - 2) highs j ph (fit highs in_highs) T.high_ends.long k (omega arith) p e
              (within k (omega arith) highs p B.long.high_long))
              (rw (with_other (n - 2) lengths j ps (fit lengths in_lengths) T.below.long k (omega arith) p e
              (within k (omega arith) lengths p B.long.length_long))
              (B.settled tree O k p (omega arith))))

      -- the same, where the places are said by the code
      pub built-on : {q : ℕ} → q ≡ n - 2
          → BuiltTo n c ρ δ left right matrix (past + (i + 1)) (take ((past + i) * (n - 2)) lows ++ (pl ++ drop q (drop ((past + i) * (n - 2)) lows)))
          (take ((past + i) * (n - 2)) highs ++ (ph ++ drop q (drop ((past + i) * (n - 2)) highs)))
          (take ((past + i) * (n - 2)) lengths ++ (ps ++ drop q (drop ((past + i) * (n - 2)) lengths)))
      built-on {q} e = rw (place lows pl) (rw (place highs ph) (rw (place lengths ps) (subst (λ k. BuiltTo n c ρ δ left right matrix k L H Z) next built-more)))
        where
          next : past + i + 1 ≡ past + (i + 1)
          next = omega arith

          place : (entries part : List ℕ) → take ((past + i) * (n - 2)) entries ++ (part ++ drop q (drop ((past + i) * (n - 2)) entries))
              ≡ with_stretch (n - 2) entries j part
          place entries part =
              ap (λ k. take ((past + i) * (n - 2)) entries ++ (part ++ drop k (drop ((past + i) * (n - 2)) entries))) e
              ∙ ap (λ k. take (k * (n - 2)) entries ++ (part ++ drop (n - 2) (drop (k * (n - 2)) entries))) (sym this)

-- ---- block after block

module _ {n c ρ δ : ℕ} {tree left right matrix lows₀ highs₀ lengths₀ : List ℕ} (G : Builds n c ρ δ tree left right matrix lows₀ highs₀ lengths₀) where
  pub builds_none : {bl bh bs : List ℕ} → Room bl bh bs → BuildsTo n c ρ δ left right matrix 0 bl bh bs lows₀ highs₀ lengths₀
  builds_none room =
      record {
        within = omega arith;
        room = room;
        built = record { long = G.long; settled = λ tree O j p q. absurd (omega arith) };
      }

  module _ {k : ℕ} {bl bh bs lows highs lengths : List ℕ} (B : BuildsTo n c ρ δ left right matrix k bl bh bs lows highs lengths) where
    module _ {w : ℕ} (ew : w ≡ min (c - k) 8) where
      in_all : k + w ≤ c
      in_all = omega (arith, B.within)

      at_most : w ≤ 8
      at_most = omega arith

      pub block_passable : Passable n c k w δ left right matrix bl bh bs
      block_passable =
          record {
            tree = tree;
            ρ = ρ;
            orders = G.orders;
            loads = record { rows = omega (arith, G.cells.rows); most = G.cells.most; within = in_all; few = at_most; room = B.room };
            small = λ i u p q r t. G.cells.small (k + i) u (omega arith) (omega (arith, in_all)) r t;
          }

      module _ {bl' bh' bs' : List ℕ} (P : Passed n c k w δ left right matrix bl' bh' bs') where
        pub block_takes : Takes n c δ left right matrix k w bl' bh' bs'
        block_takes =
            record { taxa = (G.orders.sized.least, G.orders.sized.most); few = at_most; within = in_all; most = G.cells.few; block = P }

        -- once all of its characters are taken
        pub builds_on : {i : ℕ} {lows' highs' lengths' : List ℕ} → i ≡ w → BuiltTo n c ρ δ left right matrix (k + i) lows' highs' lengths'
            → BuildsTo n c ρ δ left right matrix (k + w) bl' bh' bs' lows' highs' lengths'
        builds_on {i} {lows'} {highs'} {lengths'} e D =
            record {
              within = in_all;
              room = (P tree ρ G.orders).room;
              built = subst (λ x. BuiltTo n c ρ δ left right matrix (k + x) lows' highs' lengths') e D;
            }

    -- ---- what it means, once all are

    pub table-means : c ≤ k → TableMeans n c tree matrix lows highs lengths
    table-means l =
        record {
          long = B.built.long;
          means = λ j p q.
              let S = B.built.settled tree G.orders j p (omega (arith, B.within)) in
              first-means (record { n = n; tree = tree; ρ = ρ; δ = δ; is_tree = G.orders.accepted.is_tree }) (state_of matrix c j)
              (stretch (n - 2) lows j) (stretch (n - 2) highs j) (stretch (n - 2) lengths j) S.pass S.fits;
        }
