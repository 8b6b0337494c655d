-- A tree table and the entries of a first pass, tested by computation. The tests look at each node by itself: the table is a tree, the entries are
-- settled. Where they pass, the theorems say that the table is accepted and that the entries mean what they should.
-- Assumes nothing.
use mathlib.Core.Path.{◌≡◌, refl, ◌∙◌, ap, subst}
use mathlib.Core.Bool.{Bool, ◌||◌}
use mathlib.Core.List.{List, [], ◌∷◌, map}
use Prim.Native.Nat.{ℕ, zero, suc, ◌+◌, ◌-◌, ◌≤◌, ◌<◌}
use native.Mathlib.Decide.{dec_le}
use native.Mathlib.Omega.{arith}
use lib.Dec.{T, eqb, leb, eqb→eq, leb→le}
use lib.ListN.{length, get_or}
use lib.IntN.{pos}
use Rattle.parsimony.specs.Lists.{sum, from}
use Rattle.parsimony.specs.Table.{ancestor, nodes, descendants, climb, IsTree, Accepted}
use Rattle.parsimony.specs.Ordered.{Range, span, away, join, cost, ordered}
use Rattle.parsimony.specs.Meaning.{LengthMeans}
use Rattle.parsimony.specs.Steps.{Settled, FirstPass}
use Rattle.parsimony.specs.Character.{at_node, cells, ranges, sizes, FirstMeans}
use Rattle.parsimony.proofs.Tests.{all, Each, all-each, or_else, every, every-at, same_range, same-range}
use Rattle.parsimony.proofs.Tables.Descendants.{past_table}
use Rattle.parsimony.proofs.Tables.Reaching.{out_by_root}
use Rattle.parsimony.proofs.Tables.Trees.{Tree}
use Rattle.parsimony.proofs.Characters.{settles, first-means, length-least}

-- ---- a table is accepted

module _ (n : ℕ) (tree : List ℕ) (ρ δ : ℕ) where
  -- tests of the root, of any node, of a taxon, and of an interior node
  abbrev root_tests : List Bool
  root_tests =
      leb 1 ρ ∷ leb ρ n ∷ leb (suc n) (length tree) ∷ eqb (ancestor tree ρ) 0
      ∷ eqb (length (descendants tree ρ)) 1 ∷ eqb (get_or (descendants tree ρ) 0 0) δ ∷ []

  abbrev node_tests : ℕ → List Bool
  node_tests k = (leb 1 (ancestor tree k) || eqb k ρ) ∷ leb (ancestor tree k) (length tree) ∷ eqb (climb tree (length tree) k) 0 ∷ []

  abbrev taxon_test : ℕ → Bool
  taxon_test k = eqb k ρ || eqb (length (descendants tree k)) 0

  abbrev fork_test : ℕ → Bool
  fork_test v = eqb (length (descendants tree v)) 2

  abbrev pub tree_tests : List Bool
  tree_tests =
      all root_tests ∷ every (λ k. all (node_tests k)) (nodes tree) ∷ every taxon_test (from 1 n)
      ∷ every fork_test (from (suc n) (length tree - n)) ∷ []

  module _ (passes : T (all tree_tests)) where
    tests : Each tree_tests
    tests = all-each tree_tests passes

    at-root : Each root_tests
    at-root = all-each root_tests tests.0

    at-node : (k : ℕ) → 1 ≤ k → k ≤ length tree → Each (node_tests k)
    at-node k p q = all-each (node_tests k) (every-at (λ k. all (node_tests k)) 1 (length tree) tests.1.0 k p (omega arith))

    sole : (k : ℕ) → 1 ≤ k → k ≤ length tree → ancestor tree k ≡ 0 → k ≡ ρ
    sole k p q e =
        or_else (leb 1 (ancestor tree k)) (eqb k ρ)
        (λ t. let z : ⊥ = omega (arith, leb→le 1 (ancestor tree k) t) in absurd z) (eqb→eq k ρ) (at-node k p q).0

    within : (k : ℕ) → ancestor tree k ≤ length tree
    within zero = omega arith
    within (suc i) = go (dec_le (suc i) (length tree))
      where
        go : Dec (suc i ≤ length tree) → ancestor tree (suc i) ≤ length tree
        go (yes q) = leb→le (ancestor tree (suc i)) (length tree) (at-node (suc i) (omega arith) q).1.0
        go (no q) = omega (arith, past_table tree (suc i) (omega arith))

    none_in : (ks : List ℕ) → length ks ≡ 0 → ks ≡ []
    none_in [] h = refl
    none_in (k ∷ ks) h = let z : ⊥ = omega arith in absurd z

    one_in : (ks : List ℕ) → length ks ≡ 1 → ks ≡ get_or ks 0 0 ∷ []
    one_in [] h = let z : ⊥ = omega arith in absurd z
    one_in (k ∷ []) h = refl
    one_in (k ∷ j ∷ ks) h = let z : ⊥ = omega arith in absurd z

    two_at : (v : ℕ) → n < v → v ≤ length tree → length (descendants tree v) ≡ 2
    two_at v lo hi =
        eqb→eq (length (descendants tree v)) 2 (every-at fork_test (suc n) (length tree - n) tests.1.1.1.0 v lo (omega arith))

    pub accepted : Accepted n tree ρ δ
    accepted =
        record {
          is_tree = record {
            some = leb→le 1 ρ at-root.0;
            taxon = leb→le ρ n at-root.1.0;
            root = eqb→eq (ancestor tree ρ) 0 at-root.1.1.1.0;
            sole = sole;
            more = leb→le (suc n) (length tree) at-root.1.1.0;
            within = within;
            leaf = λ k p q r.
                or_else (eqb k ρ) (eqb (length (descendants tree k)) 0) (λ t. absurd (r (eqb→eq k ρ t)))
                (λ t. none_in (descendants tree k) (eqb→eq (length (descendants tree k)) 0 t))
                (every-at taxon_test 1 n tests.1.1.0 k p (omega arith));
            stem = one_in (descendants tree ρ) (eqb→eq (length (descendants tree ρ)) 1 at-root.1.1.1.1.0)
                ∙ ap (λ d. d ∷ []) (eqb→eq (get_or (descendants tree ρ) 0 0) δ at-root.1.1.1.1.1.0);
            fork = λ v lo hi. omega (arith, two_at v lo hi);
            reach = λ k p q.
                out_by_root tree ρ sole within (length tree) k p q (eqb→eq (climb tree (length tree) k) 0 (at-node k p q).1.1.0);
          };
          two = two_at;
        }

-- ---- the entries of a first pass

module _ (n : ℕ) (tree : List ℕ) (state : ℕ → ℕ) (lows highs lengths : List ℕ) where
  abbrev entry : ℕ → Range
  entry = ranges n state lows highs

  abbrev size : ℕ → ℕ
  size = sizes n state lengths

  -- the tests of an interior node: it is settled, and its ends are in order
  abbrev settled_tests : ℕ → List Bool
  settled_tests v =
      same_range (entry v) (join (map entry (descendants tree v)))
      ∷ eqb (size v) (sum size (descendants tree v) + cost (map entry (descendants tree v))) ∷ leb (at_node n lows v) (at_node n highs v) ∷ []

  abbrev pub pass_test : Bool
  pass_test = every (λ v. all (settled_tests v)) (from (suc n) (length tree - n))

  -- the test of a length: what is below the root's descendant, and the distance from the root's state to its range
  abbrev pub length_test : (ρ δ l : ℕ) → Bool
  length_test ρ δ l = eqb (at_node n lengths δ + away (pos (state ρ)) (span (at_node n lows δ) (at_node n highs δ))) l

  module _ (passes : T pass_test) where
    at_fork : (v : ℕ) → n < v → v ≤ length tree → Each (settled_tests v)
    at_fork v lo hi =
        all-each (settled_tests v) (every-at (λ v. all (settled_tests v)) (suc n) (length tree - n) passes v lo (omega arith))

    pub first-pass : FirstPass ordered n (cells n state) tree entry size
    first-pass = settles n state tree lows highs lengths settled
      where
        settled : (v : ℕ) → n < v → v ≤ length tree → Settled ordered tree entry size v
        settled v lo hi =
            let e = at_fork v lo hi in
            record {
              joined = same-range (entry v) (join (map entry (descendants tree v))) e.0;
              summed = eqb→eq (size v) (sum size (descendants tree v) + cost (map entry (descendants tree v))) e.1.0;
            }

    module _ (ρ δ : ℕ) (is_tree : IsTree n tree ρ δ) where
      abbrev whole : Tree
      whole = record { n = n; tree = tree; ρ = ρ; δ = δ; is_tree = is_tree }

      pub first : FirstMeans n state tree lows highs lengths
      first =
          first-means whole state lows highs lengths first-pass
          (λ v lo hi. leb→le (at_node n lows v) (at_node n highs v) (at_fork v lo hi).1.1.0)

      pub least : (l : ℕ) → T (length_test ρ δ l) → LengthMeans ordered n (cells n state) tree l
      least l t =
          subst (LengthMeans ordered n (cells n state) tree)
          (eqb→eq (at_node n lengths δ + away (pos (state ρ)) (span (at_node n lows δ) (at_node n highs δ))) l t)
          (length-least whole state lows highs lengths first-pass)
