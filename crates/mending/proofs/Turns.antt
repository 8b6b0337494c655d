-- What the lists hold after i nodes of a path: these are settled, with small lengths, and no other entry is written.
-- Assumes nothing.
use mathlib.Core.Path.{◌≡◌}
use mathlib.Core.Logic.{◌≢◌}
use mathlib.Core.List.{List}
use Prim.Native.Nat.{ℕ, suc, ◌-◌, ◌*◌, ◌≤◌, ◌<◌}
use lib.ListN.{length}
use Rattle.parsimony.specs.Table.{climb}
use Rattle.parsimony.specs.Ordered.{ordered}
use Rattle.parsimony.specs.Steps.{Settled}
use Rattle.parsimony.specs.Matrix.{state_of}
use Rattle.parsimony.specs.Character.{at_node, ranges, sizes}
use Rattle.mending.specs.Mending.{SameAt}

module _ (n c j t count : ℕ) (tree matrix lows₀ highs₀ lengths₀ : List ℕ) where
  pub record MendedTo (i : ℕ) (lows highs lengths : List ℕ) : Type 0 where
    pub low_long : length lows ≡ n - 2
    pub high_long : length highs ≡ n - 2
    pub length_long : length lengths ≡ n - 2
    pub others : (u : ℕ) → n < u → u ≤ length tree → ((h : ℕ) → h < i → climb tree (suc h) t ≢ u)
        → SameAt n lows₀ highs₀ lengths₀ lows highs lengths u
    pub settled : (h : ℕ) → h < i → Settled ordered tree (ranges n (state_of matrix c j) lows highs) (sizes n (state_of matrix c j) lengths)
        (climb tree (suc h) t)
    pub fits : (h : ℕ) → h < i → at_node n lows (climb tree (suc h) t) ≤ at_node n highs (climb tree (suc h) t)
    pub small : (h : ℕ) → h < i → at_node n highs (climb tree (suc h) t) ≤ 9999
    pub short : (h : ℕ) → h < i → at_node n lengths (climb tree (suc h) t) ≤ suc h * 5099490
