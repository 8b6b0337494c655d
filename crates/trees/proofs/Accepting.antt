-- From searches that found nothing to an accepted table.
-- Assumes nothing.
use mathlib.Core.Path.{◌≡◌, refl, sym, ◌∙◌, ap}
use mathlib.Core.Logic.{◌≢◌, inl, inr}
use mathlib.Core.List.{List, [], ◌∷◌}
use Prim.Native.Nat.{ℕ, zero, suc, ◌≤◌, ◌<◌}
use native.Mathlib.Decide.{ℕ_discrete, dec_le}
use native.Mathlib.Omega.{arith}
use lib.ListN.{length}
use Rattle.parsimony.specs.Lists.{same}
use Rattle.parsimony.specs.Table as table
use Rattle.parsimony.specs.Table.{ancestor, descendants, climb}
use Rattle.parsimony.proofs.Sums.{All, often, same_self, same_equal}
use Rattle.parsimony.proofs.Tables.Descendants.{past_table, Descends, each_descends, often-descendants}
use Rattle.refusals.specs.Search.{Never}
use Rattle.roots.specs.Roots.{IsRoot, Named}
use Rattle.faults.specs.Faults.{StrayEntry, WrongCount}
use Rattle.climbs.specs.Climbs.{Climbable, Reaches}
use Rattle.trees.specs.Answers.{Sized}

module _ (n : ℕ) (tree : List ℕ) (ρ : ℕ) (S : Sized n tree) (R : IsRoot n tree ρ) (E : Never (StrayEntry n tree ρ) (length tree)) where
  pub few : length tree ≤ 510
  few = omega (arith, S.nodes, S.most)

  pub within : (k : ℕ) → ancestor tree k ≤ length tree
  within zero = omega arith
  within (suc i) = go (dec_le (suc i) (length tree)) (dec_le (ancestor tree (suc i)) (length tree))
    where
      go : Dec (suc i ≤ length tree) → Dec (ancestor tree (suc i) ≤ length tree) → ancestor tree (suc i) ≤ length tree
      go d (yes l) = l
      go (yes q) (no l) = absurd (E (suc i) (omega arith) q (inl (omega arith)))
      go (no q) (no l) = omega (arith, past_table tree (suc i) (omega arith))

  pub climbable : Climbable ρ tree
  climbable =
      record {
        few = few;
        some = R.some;
        most = R.most;
        onward = λ k p q r. (up k p q r (dec_le 1 (ancestor tree k)), within k);
      }
    where
      up : (k : ℕ) → 1 ≤ k → k ≤ length tree → k ≢ ρ → Dec (1 ≤ ancestor tree k) → 1 ≤ ancestor tree k
      up k p q r (yes l) = l
      up k p q r (no l) = absurd (r (R.sole k p q (omega arith)))

  module _ (C : Never (WrongCount n tree ρ) (length tree)) where
    root-one : length (descendants tree ρ) ≡ 1
    root-one = go (ℕ_discrete (length (descendants tree ρ)) 1)
      where
        go : Dec (length (descendants tree ρ) ≡ 1) → length (descendants tree ρ) ≡ 1
        go (yes e) = e
        go (no e) = absurd (C ρ R.some climbable.most (inl (refl, e)))

    pub named : Named ρ tree
    named = first (descendants tree ρ) root-one (each_descends tree ρ)
      where
        first : (cs : List ℕ) → length cs ≡ 1 → All (Descends tree ρ) cs → Named ρ tree
        first [] e h = let z : ⊥ = omega arith in absurd z
        first (c ∷ cs) e h = (c, h.0.some, h.0.most, sym h.0.of)

    pub accepted : ((k : ℕ) → 1 ≤ k → k ≤ length tree → Reaches tree ρ k) → (δ : ℕ) → ancestor tree δ ≡ ρ → table.Accepted n tree ρ δ
    accepted reach δ d =
        record {
          is_tree = record {
            some = R.some;
            taxon = R.taxon;
            root = R.root;
            sole = R.sole;
            more = omega (arith, S.nodes, S.least);
            within = within;
            leaf = λ k p q r. unnamed k p q r (descendants tree k) (each_descends tree k);
            stem = stem (descendants tree ρ) root-one (often-descendants tree ρ δ R.some ∙ ap (same ρ) d ∙ same_self ρ);
            fork = λ k p q. omega (arith, two k p q);
            reach = reach;
          };
          two = two;
        }
      where
        two : (k : ℕ) → n < k → k ≤ length tree → length (descendants tree k) ≡ 2
        two k p q = go (ℕ_discrete (length (descendants tree k)) 2)
          where
            go : Dec (length (descendants tree k) ≡ 2) → length (descendants tree k) ≡ 2
            go (yes e) = e
            go (no e) = absurd (C k (omega arith) q (inr (p, e)))

        unnamed : (k : ℕ) → 1 ≤ k → k ≤ n → k ≢ ρ → (cs : List ℕ) → All (Descends tree k) cs → cs ≡ []
        unnamed k p q r [] h = refl
        unnamed k p q r (c ∷ cs) h =
            let e : k ≡ ancestor tree c = h.0.of in
            absurd (E c h.0.some h.0.most (inr (omega arith, omega arith, λ z. r (e ∙ z))))

        stem : (cs : List ℕ) → length cs ≡ 1 → often cs δ ≡ 1 → cs ≡ δ ∷ []
        stem [] e o = let z : ⊥ = omega arith in absurd z
        stem (c ∷ []) e o = ap (λ x. x ∷ []) (same_equal c δ (omega arith))
        stem (c ∷ b ∷ cs) e o = let z : ⊥ = omega arith in absurd z
