-- A test of an example that antt computes, and that the example's claim holds where the test passes. The test looks at each node by itself: the
-- entries are settled (Entries.antt), the second pass gives the final ranges, each state is the nearest; the theorems do the rest.
-- Assumes nothing.
use mathlib.Core.Path.{◌≡◌, refl, sym, ◌∙◌, ap, ap₂, subst}
use mathlib.Core.Bool.{Bool, true, false, ◌&&◌, ◌||◌}
use mathlib.Core.List.{List, [], ◌∷◌, ◌++◌, map}
use Prim.Native.Nat.{ℕ, zero, suc, ◌-◌, ◌≤◌, ◌<◌, min, max}
use native.Mathlib.Decide.{ℕ_discrete, dec_le}
use native.Mathlib.Omega.{arith}
use lib.Dec.{T, eqb, leb, eqb→eq, leb→le}
use lib.ListN.{length}
use lib.IntN.{pos}
use Rattle.parsimony.specs.Lists.{from, choose}
use Rattle.parsimony.specs.Table.{ancestor, descendants, sisters, below, between, Accepted}
use Rattle.parsimony.specs.Ordered.{Range, span, point, nearest, join, cost, ordered}
use Rattle.parsimony.specs.Steps.{FirstPass, SecondPass, final, Chosen}
use Rattle.parsimony.specs.Character.{at_node, cells, ranges, sizes, way_of}
use Rattle.parsimony.specs.Index.{Index, fraction, none, m, g, ci, ri}
use Rattle.parsimony.proofs.Tests.{all, Each, all-each, or_else, every, every-at, same_range, same-range}
use Rattle.parsimony.proofs.Tables.Trees.{Tree}
use Rattle.parsimony.proofs.Characters.{nearest-point, range-inner, way-taxon, way-inner, acctran_way, finals_mean, deltran_way}
use Rattle.parsimony.proofs.Examples.Claims.{
  Character,
  state_in,
  Scored,
  Correction,
  state_after,
  AsBefore,
  Corrected,
  Example,
  joins,
  scores,
  corrects,
  Holds,
  AllHold,
}
use Rattle.parsimony.proofs.Examples.Entries.{tree_tests, accepted, pass_test, length_test, first-pass, first, least}

-- ---- a character's numbers

unfoldable pub index_test : Index → Index → Bool
index_test none none = true
index_test none (fraction a b) = false
index_test (fraction a b) none = false
index_test (fraction a b) (fraction c d) = all (eqb a c ∷ eqb b d ∷ [])

same_index : (i j : Index) → T (index_test i j) → i ≡ j
unfolding index_test
same_index none none h = refl
same_index none (fraction a b) h = absurd h
same_index (fraction a b) none h = absurd h
same_index (fraction a b) (fraction c d) h =
    let e = all-each (eqb a c ∷ eqb b d ∷ []) h in
    ap₂ fraction (eqb→eq a c e.0) (eqb→eq b d e.1.0)

module _ (c : Character) where
  open c use {n, tree, ρ, δ, states, lows, highs, lengths, final_lows, final_highs, acctran, deltran, length', m', g', ci', ri'}

  abbrev state : ℕ → ℕ
  state = state_in states

  abbrev entry : ℕ → Range
  entry = ranges n state lows highs

  -- what a node sees from above, by going up s steps at the most
  unfoldable pub above_by : ℕ → ℕ → Range
  above_by zero v = point (state ρ)
  above_by (suc s) v =
      let far = above_by s (ancestor tree v) in
      choose (ℕ_discrete v δ) (point (state ρ)) (join (map entry (sisters tree v) ++ (far ∷ [])))

  abbrev above : ℕ → Range
  above v = above_by (length tree) v

  -- the tests of an interior node: it sees what it should; its final range is right; its states are nearest
  abbrev above_test : ℕ → Bool
  above_test v = eqb v δ || same_range (above v) (join (map entry (sisters tree v) ++ (above (ancestor tree v) ∷ [])))

  abbrev final_tests : ℕ → List Bool
  final_tests v =
      same_range (span (at_node n final_lows v) (at_node n final_highs v)) (join (map entry (descendants tree v) ++ (above v ∷ [])))
      ∷ leb (at_node n final_lows v) (at_node n final_highs v) ∷ []

  abbrev state_by : List ℕ → ℕ → ℕ
  state_by chosen v = choose (dec_le v n) (state v) (at_node n chosen v)

  abbrev nearest_test : (lows highs chosen : List ℕ) → ℕ → Bool
  nearest_test lows highs chosen v =
      let a = state_by chosen (ancestor tree v) in
      let r = span (at_node n lows v) (at_node n highs v) in
      eqb (at_node n chosen v) (max r.low (min a r.high))

  abbrev forks_tests : ℕ → List Bool
  forks_tests v =
      above_test v ∷ all (final_tests v) ∷ nearest_test lows highs acctran v ∷ nearest_test final_lows final_highs deltran v ∷ []

  abbrev character_tests : List Bool
  character_tests =
      all (tree_tests n tree ρ δ) ∷ pass_test n tree state lows highs lengths ∷ length_test n tree state lows highs lengths ρ δ length'
      ∷ every (λ v. all (forks_tests v)) (from (suc n) (length tree - n)) ∷ same_range (above δ) (point (state ρ))
      ∷ eqb (m n state) m' ∷ eqb (g n state ρ) g' ∷ index_test (ci m' length') ci' ∷ index_test (ri m' length' g') ri' ∷ []

  module _ (passes : T (all character_tests)) where
    done : Each character_tests
    done = all-each character_tests passes

    is_accepted : Accepted n tree ρ δ
    is_accepted = accepted n tree ρ δ done.0

    abbrev whole : Tree
    whole = record { n = n; tree = tree; ρ = ρ; δ = δ; is_tree = is_accepted.is_tree }

    at_fork : (v : ℕ) → n < v → v ≤ length tree → Each (forks_tests v)
    at_fork v lo hi =
        all-each (forks_tests v) (every-at (λ v. all (forks_tests v)) (suc n) (length tree - n) done.1.1.1.0 v lo (omega arith))

    pass : FirstPass ordered n (cells n state) tree entry (sizes n state lengths)
    pass = first-pass n tree state lows highs lengths done.1.0

    second-pass : SecondPass ordered n (cells n state) tree ρ δ entry above
    second-pass =
        record {
          top = same-range (above δ) (point (state ρ)) done.1.1.1.1.0;
          rest = λ v lo hi r.
              or_else (eqb v δ) (same_range (above v) (join (map entry (sisters tree v) ++ (above (ancestor tree v) ∷ []))))
              (λ t. absurd (r (eqb→eq v δ t)))
              (same-range (above v) (join (map entry (sisters tree v) ++ (above (ancestor tree v) ∷ [])))) (at_fork v lo hi).0;
        }

    final-at : (v : ℕ) → n < v → v ≤ length tree
        → span (at_node n final_lows v) (at_node n final_highs v) ≡ final ordered n (cells n state) tree entry above v
    final-at v lo hi =
        same-range (span (at_node n final_lows v) (at_node n final_highs v)) (join (map entry (descendants tree v) ++ (above v ∷ [])))
        (all-each (final_tests v) (at_fork v lo hi).1.0).0

    -- states that pass the test are chosen
    chosen_by : (ls hs cs : List ℕ)
        → ((v : ℕ) → n < v → v ≤ length tree → T (nearest_test ls hs cs v))
        → Chosen ordered n (cells n state) tree ρ (ranges n state ls hs) (way_of n state cs)
    chosen_by ls hs cs t =
        record {
          taxa = λ k p q r. way-taxon n state cs k q ∙ sym (nearest-point (state k) (way_of n state cs (ancestor tree k)));
          forks = λ v lo hi.
              way-inner n state cs v lo
              ∙ ap pos (eqb→eq (at_node n cs v) _ (t v lo hi))
              ∙ ap (λ r. nearest r (way_of n state cs (ancestor tree v))) (sym (range-inner n state ls hs v lo));
        }

    root-state : (cs : List ℕ) → way_of n state cs ρ ≡ pos (state ρ)
    root-state cs = way-taxon n state cs ρ is_accepted.is_tree.taxon

    scored : Scored c
    scored =
        let A = chosen_by lows highs acctran (λ v lo hi. (at_fork v lo hi).1.1.0) in
        let D = chosen_by final_lows final_highs deltran (λ v lo hi. (at_fork v lo hi).1.1.1.0) in
        record {
          accepted = is_accepted;
          first = first n tree state lows highs lengths done.1.0 ρ δ is_accepted.is_tree;
          finals = finals_mean whole state lows highs lengths pass above second-pass final_lows final_highs
              (λ v lo hi. leb→le (at_node n final_lows v) (at_node n final_highs v) (all-each (final_tests v) (at_fork v lo hi).1.0).1.0)
              final-at;
          least = least n tree state lows highs lengths done.1.0 ρ δ is_accepted.is_tree length' done.1.1.0;
          acctran_chosen = A;
          acctran_shortest = (acctran_way whole state lows highs lengths pass (way_of n state acctran) (root-state acctran) A).0;
          deltran_chosen = D;
          deltran_shortest = (deltran_way whole state lows highs lengths pass above second-pass (ranges n state final_lows final_highs)
              (λ v lo hi. range-inner n state final_lows final_highs v lo ∙ final-at v lo hi) (way_of n state deltran) (root-state deltran) D).0;
          m_is = eqb→eq (m n state) m' done.1.1.1.1.1.0;
          g_is = eqb→eq (g n state ρ) g' done.1.1.1.1.1.1.0;
          ci_is = same_index (ci m' length') ci' done.1.1.1.1.1.1.1.0;
          ri_is = same_index (ri m' length' g') ri' done.1.1.1.1.1.1.1.1.0;
        }

-- ---- a correction's numbers

module _ (c : Correction) where
  open c use {before, taxon, lows, highs, lengths, length', count}
  open before use {n, tree, ρ, δ, states}

  abbrev same_tests : ℕ → List Bool
  same_tests v =
      eqb (at_node n lows v) (at_node n before.lows v) ∷ eqb (at_node n highs v) (at_node n before.highs v)
      ∷ eqb (at_node n lengths v) (at_node n before.lengths v) ∷ []

  -- the test of an interior node: the taxon is below it, or its entry is as before
  abbrev kept_test : ℕ → Bool
  kept_test v = leb 1 (below tree v taxon) || all (same_tests v)

  abbrev correction_tests : List Bool
  correction_tests =
      all (tree_tests n tree ρ δ) ∷ leb 1 taxon ∷ leb taxon n
      ∷ pass_test n tree (state_in states) before.lows before.highs before.lengths ∷ pass_test n tree (state_after c) lows highs lengths
      ∷ length_test n tree (state_after c) lows highs lengths ρ δ length' ∷ every kept_test (from (suc n) (length tree - n))
      ∷ eqb (between n tree taxon) count ∷ []

  module _ (passes : T (all correction_tests)) where
    each : Each correction_tests
    each = all-each correction_tests passes

    tree-accepted : Accepted n tree ρ δ
    tree-accepted = accepted n tree ρ δ each.0

    as_before : (v : ℕ) → n < v → v ≤ length tree → below tree v taxon ≡ 0 → AsBefore c v
    as_before v lo hi off =
        or_else (leb 1 (below tree v taxon)) (all (same_tests v))
        (λ t. let z : ⊥ = omega (arith, leb→le 1 (below tree v taxon) t) in absurd z) (λ t. same (all-each (same_tests v) t))
        (every-at kept_test (suc n) (length tree - n) each.1.1.1.1.1.1.0 v lo (omega arith))
      where
        same : Each (same_tests v) → AsBefore c v
        same e = (
          eqb→eq (at_node n lows v) (at_node n before.lows v) e.0,
          eqb→eq (at_node n highs v) (at_node n before.highs v) e.1.0,
          eqb→eq (at_node n lengths v) (at_node n before.lengths v) e.1.1.0,
        )

    corrected : Corrected c
    corrected =
        record {
          accepted = tree-accepted;
          some = leb→le 1 taxon each.1.0;
          most = leb→le taxon n each.1.1.0;
          first-before = first n tree (state_in states) before.lows before.highs before.lengths each.1.1.1.0 ρ δ
              tree-accepted.is_tree;
          first = first n tree (state_after c) lows highs lengths each.1.1.1.1.0 ρ δ tree-accepted.is_tree;
          least = least n tree (state_after c) lows highs lengths each.1.1.1.1.0 ρ δ tree-accepted.is_tree length'
              each.1.1.1.1.1.0;
          kept = as_before;
          count_is = eqb→eq (between n tree taxon) count each.1.1.1.1.1.1.1.0;
        }

-- ---- all examples

abbrev pub test : Example → Bool
test (joins a b c d low high cost') =
    all (same_range (join (span a b ∷ span c d ∷ [])) (span low high) ∷ eqb (cost (span a b ∷ span c d ∷ [])) cost' ∷ [])
test (scores c) = all (character_tests c)
test (corrects c) = all (correction_tests c)

holds : (e : Example) → T (test e) → Holds e
holds (joins a b c d low high cost') h =
    let e = all-each (same_range (join (span a b ∷ span c d ∷ [])) (span low high) ∷ eqb (cost (span a b ∷ span c d ∷ [])) cost' ∷ []) h in (
      same-range (join (span a b ∷ span c d ∷ [])) (span low high) e.0,
      eqb→eq (cost (span a b ∷ span c d ∷ [])) cost' e.1.0,
    )
holds (scores c) h = scored c h
holds (corrects c) h = corrected c h

pub all_hold : (es : List Example) → T (all (map test es)) → AllHold es
all_hold [] h = tt
all_hold (e ∷ es) h = go (test e) refl h (all_hold es)
  where
    go : (b : Bool) → test e ≡ b → T (b && all (map test es)) → (T (all (map test es)) → AllHold es) → AllHold (e ∷ es)
    go true q t ih = (holds e (subst T (sym q) tt), ih t)
    go false q t ih = absurd t
