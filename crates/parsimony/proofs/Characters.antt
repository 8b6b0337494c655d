-- One ordered character whose taxa have one state each: lists of numbers whose entries are settled mean what they should, and no other lists do.
-- Assumes nothing.
use mathlib.Core.Path.{◌≡◌, refl, sym, ◌∙◌, ap, subst}
use mathlib.Core.Logic.{◌≢◌, ◌↔◌}
use mathlib.Core.List.{List, [], ◌∷◌}
use Prim.Native.Nat.{ℕ, suc, ◌+◌, ◌-◌, ◌*◌, ◌≤◌, ◌<◌, min, max}
use native.Mathlib.Decide.{dec_le}
use native.Mathlib.Omega.{arith}
use lib.ListN.{length, get_or, set}
use lib.Seq.{get_or-set_same, get_or-set_other, ext_get_or}
use lib.IntN.{ℤ, pos, negsuc}
use Rattle.parsimony.specs.Lists.{choose}
use Rattle.parsimony.specs.Table.{ancestor}
use Rattle.parsimony.specs.Kind.{In}
use Rattle.parsimony.specs.Ordered.{Range, span, point, nearest, away, join, cost, ordered}
use Rattle.parsimony.specs.Way.{Agrees, length_of}
use Rattle.parsimony.specs.Meaning.{EntryMeans, FinalMeans, LengthMeans, Reconstructs}
use Rattle.parsimony.specs.Steps.{Settled, FirstPass, SecondPass, final, length_by, Chosen, RootChosen}
use Rattle.parsimony.specs.Character.{at_node, cells, ranges, sizes, way_of, FirstMeans, FinalsMean}
use Rattle.parsimony.proofs.Sums.{choose_yes, choose_no}
use Rattle.parsimony.proofs.Tables.Trees.{Tree}
use Rattle.parsimony.proofs.Tables.Whole.{δ-inner}
use Rattle.parsimony.proofs.Tables.First.{entry-means, length-means}
use Rattle.parsimony.proofs.Tables.Final.{final-means}
use Rattle.parsimony.proofs.Tables.Chosen.{acctran, deltran, reconstructs}
use Rattle.parsimony.proofs.Ranges.Distances.{range_same, away_is, in_range}
use Rattle.parsimony.proofs.Ranges.Chains.{inner}
use Rattle.parsimony.proofs.Ranges.Laws.{ordered_laws, straight}
use Rattle.parsimony.proofs.Ranges.Joins.{join-two, cost-two}

-- ---- the range of one state

pub nearest-point : (a : ℕ) (x : ℤ) → nearest (point a) x ≡ pos a
nearest-point a (pos b) = ap pos (omega arith)
nearest-point a (negsuc b) = refl

pub in_point : (a : ℕ) (x : ℤ) → In ordered x (point a) ↔ (x ≡ pos a)
in_point a x = (
  λ h. let (b, e, p, q) = (in_range (point a) x).0 h in e ∙ ap pos (omega arith),
  λ e. (in_range (point a) x).1 (a, e, omega arith, omega arith),
)

pub span-point : (a : ℕ) → span a a ≡ point a
span-point a = range_same (span a a) (point a) refl (omega arith)

-- ---- one entry of a list is written

module _ (n : ℕ) (entries : List ℕ) (v x : ℕ) (inner : n < v) where
  pub entry-written : v - n - 1 < length entries → at_node n (set entries (v - n - 1) x) v ≡ x
  entry-written l =
      ap (λ k. get_or (set entries (v - n - 1) x) k 0) (omega arith) ∙ get_or-set_same entries (v - n - 1) x 0 l

  pub entry_other : (u : ℕ) → n < u → u ≢ v → at_node n (set entries (v - n - 1) x) u ≡ at_node n entries u
  entry_other u h d = get_or-set_other entries (v - n - 1) (u - suc n) x 0 (λ e. d (omega arith))

-- ---- lists with an entry for each interior node

-- two of them are the same if their entries are, at every interior node
pub same_entries : (n : ℕ) (tree xs ys : List ℕ) → length tree ≡ 2 * n - 2 → length xs ≡ n - 2 → length ys ≡ n - 2
    → ((v : ℕ) → n < v → v ≤ length tree → at_node n xs v ≡ at_node n ys v) → xs ≡ ys
same_entries n tree xs ys e p q h = ext_get_or 0 xs ys (p ∙ sym q) at
  where
    at : (i : ℕ) → i < length xs → get_or xs i 0 ≡ get_or ys i 0
    at i l =
        let place : suc (n + i) - suc n ≡ i = omega arith in
        ap (λ k. get_or xs k 0) (sym place) ∙ h (suc (n + i)) (omega arith) (omega arith) ∙ ap (λ k. get_or ys k 0) place

-- ---- what stands at a node

module _ (n : ℕ) (state : ℕ → ℕ) where
  -- to agree is to have the taxa's states
  pub agrees_states : (w : ℕ → ℤ) → Agrees ordered n (cells n state) w ↔ ((k : ℕ) → 1 ≤ k → k ≤ n → w k ≡ pos (state k))
  agrees_states w = (
    λ g k p q. (in_point (state k) (w k)).0 (g k p q),
    λ g k p q. (in_point (state k) (w k)).1 (g k p q),
  )

  -- what stands at a taxon and at an interior node
  module _ (lows highs : List ℕ) where
    pub range-taxon : (k : ℕ) → k ≤ n → ranges n state lows highs k ≡ cells n state k
    range-taxon k l = choose_yes (dec_le k n) (point (state k)) (span (at_node n lows k) (at_node n highs k)) l

    pub range-inner : (v : ℕ) → n < v → ranges n state lows highs v ≡ span (at_node n lows v) (at_node n highs v)
    range-inner v h = choose_no (dec_le v n) (point (state v)) (span (at_node n lows v) (at_node n highs v)) (λ l. omega arith)

  pub size-taxon : (lengths : List ℕ) (k : ℕ) → k ≤ n → sizes n state lengths k ≡ 0
  size-taxon lengths k l = choose_yes (dec_le k n) 0 (at_node n lengths k) l

  pub size-inner : (lengths : List ℕ) (v : ℕ) → n < v → sizes n state lengths v ≡ at_node n lengths v
  size-inner lengths v h = choose_no (dec_le v n) 0 (at_node n lengths v) (λ l. omega arith)

  pub way-taxon : (states : List ℕ) (k : ℕ) → k ≤ n → way_of n state states k ≡ pos (state k)
  way-taxon states k l = ap pos (choose_yes (dec_le k n) (state k) (at_node n states k) l)

  -- a node's state is as before where another's is written
  pub way-other : (states : List ℕ) (v x : ℕ) → n < v → (u : ℕ) → u ≢ v → way_of n state (set states (v - n - 1) x) u ≡ way_of n state states u
  way-other states v x inner u d = ap pos (go (dec_le u n))
    where
      go : (e : Dec (u ≤ n)) → choose e (state u) (at_node n (set states (v - n - 1) x) u) ≡ choose e (state u) (at_node n states u)
      go (yes l) = refl
      go (no l) = entry_other n states v x inner u (omega arith) d

  pub way-inner : (states : List ℕ) (v : ℕ) → n < v → way_of n state states v ≡ pos (at_node n states v)
  way-inner states v h = ap pos (choose_no (dec_le v n) (state v) (at_node n states v) (λ l. omega arith))

  module _ (tree : List ℕ) (lows highs lengths : List ℕ) where
    -- the first pass, of three lists
    abbrev pub Settles : Type 0
    Settles = FirstPass ordered n (cells n state) tree (ranges n state lows highs) (sizes n state lengths)

    -- it is enough that each interior node is settled
    pub settles : ((v : ℕ) → n < v → v ≤ length tree → Settled ordered tree (ranges n state lows highs) (sizes n state lengths) v) → Settles
    settles h =
        record {
          taxa = λ k p l. (range-taxon lows highs k l, size-taxon lengths k l);
          forks = h;
        }

-- ---- what settled lists mean

module _ (T : Tree) (state : ℕ → ℕ) where
  open T use {n, tree, ρ, δ}

  module _ (lows highs lengths : List ℕ) (P : Settles n state tree lows highs lengths) where
    pub first-means : ((v : ℕ) → n < v → v ≤ length tree → at_node n lows v ≤ at_node n highs v) → FirstMeans n state tree lows highs lengths
    first-means fits =
        record {
          fits = fits;
          means = λ v lo hi.
              subst (λ r. EntryMeans ordered n (cells n state) tree v r (at_node n lengths v)) (range-inner n state lows highs v lo)
              (subst (EntryMeans ordered n (cells n state) tree v (ranges n state lows highs v)) (size-inner n state lengths v lo)
              (entry-means ordered ordered_laws (cells n state) T (ranges n state lows highs) (sizes n state lengths) P v lo hi));
        }

    -- the length: what is below the root's descendant, and the distance from the root's state to its range
    abbrev pub length_from_entries : ℕ
    length_from_entries = at_node n lengths δ + away (pos (state ρ)) (span (at_node n lows δ) (at_node n highs δ))

    pub length_from : length_by ordered n (cells n state) tree ρ δ (ranges n state lows highs) (sizes n state lengths) ≡ length_from_entries
    length_from =
        ap (λ r. sizes n state lengths δ + cost (point (state ρ) ∷ r ∷ [])) (range-inner n state lows highs δ (δ-inner T))
        ∙ ap (λ l. l + cost (point (state ρ) ∷ span (at_node n lows δ) (at_node n highs δ) ∷ [])) (size-inner n state lengths δ (δ-inner T))
        ∙ ap (λ c. at_node n lengths δ + c) (root-cost (state ρ) (span (at_node n lows δ) (at_node n highs δ)))
      where
        root-cost : (a : ℕ) (r : Range) → cost (point a ∷ r ∷ []) ≡ away (pos a) r
        root-cost a r = cost-two (point a) r ∙ gap-off r.low r.high r.fits ∙ sym (away_is (pos a) r)
          where
            gap-off : (l h : ℕ) → l ≤ h → max l a - min h a ≡ (l - a) + (a - h)
            gap-off l h f = omega arith

    pub length-least : LengthMeans ordered n (cells n state) tree length_from_entries
    length-least =
        subst (LengthMeans ordered n (cells n state) tree) length_from
        (length-means ordered ordered_laws (cells n state) T (ranges n state lows highs) (sizes n state lengths) P)

    -- ---- ways

    -- a way that has the taxa's states and goes down by nearest states
    root-chosen : (w : ℕ → ℤ) → w ρ ≡ pos (state ρ) → RootChosen ordered n (cells n state) tree ρ δ (ranges n state lows highs) w
    root-chosen w e =
        record {
          own = (in_point (state ρ) (w ρ)).1 e;
          joined = rw e (in_join (state ρ) (ranges n state lows highs δ));
        }
      where
        in_join : (a : ℕ) (r : Range) → In ordered (pos a) (join (point a ∷ r ∷ []))
        in_join a r =
            ap (away (pos a)) (join-two (point a) r)
            ∙ (in_range (inner r (point a)) (pos a)).1 (a, refl, omega (arith, r.fits), omega (arith, r.fits))

    pub acctran_way : (w : ℕ → ℤ) → w ρ ≡ pos (state ρ) → Chosen ordered n (cells n state) tree ρ (ranges n state lows highs) w
        → Reconstructs ordered n (cells n state) tree w × (length_of ordered tree w ≡ length_from_entries)
    acctran_way w e c =
        let r = acctran ordered ordered_laws (cells n state) T (ranges n state lows highs) (sizes n state lengths) P w (root-chosen w e) c in (
          reconstructs ordered ordered_laws (cells n state) T (ranges n state lows highs) (sizes n state lengths) P w r.0 r.1,
          r.1 ∙ length_from,
        )

    module _ (above : ℕ → Range) (Q : SecondPass ordered n (cells n state) tree ρ δ (ranges n state lows highs) above) where
      pub finals_mean : (flows fhighs : List ℕ)
          → ((v : ℕ) → n < v → v ≤ length tree → at_node n flows v ≤ at_node n fhighs v)
          → ((v : ℕ) → n < v → v ≤ length tree
          → span (at_node n flows v) (at_node n fhighs v) ≡ final ordered n (cells n state) tree (ranges n state lows highs) above v)
          → FinalsMean n state tree flows fhighs
      finals_mean flows fhighs fits e =
          record {
            fits = fits;
            means = λ v lo hi.
                subst (FinalMeans ordered n (cells n state) tree v) (sym (e v lo hi))
                (final-means ordered ordered_laws (cells n state) T (ranges n state lows highs) (sizes n state lengths) above P Q v lo hi);
          }

      pub deltran_way : (range : ℕ → Range)
          → ((v : ℕ) → n < v → v ≤ length tree → range v ≡ final ordered n (cells n state) tree (ranges n state lows highs) above v)
          → (w : ℕ → ℤ) → w ρ ≡ pos (state ρ) → Chosen ordered n (cells n state) tree ρ range w
          → Reconstructs ordered n (cells n state) tree w × (length_of ordered tree w ≡ length_from_entries)
      deltran_way range f w e c =
          let r = deltran ordered ordered_laws (cells n state) T (ranges n state lows highs) (sizes n state lengths) P above Q straight w
          (e ∙ sym (nearest-point (state ρ) (w δ)))
          (record {
            taxa = c.taxa;
            forks = λ v lo hi. c.forks v lo hi ∙ ap (λ r. nearest r (w (ancestor tree v))) (f v lo hi);
          }) in (
            reconstructs ordered ordered_laws (cells n state) T (ranges n state lows highs) (sizes n state lengths) P w r.0 r.1,
            r.1 ∙ length_from,
          )
