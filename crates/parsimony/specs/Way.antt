-- A way is a state for every node: the paper's reconstruction. Its length is the plain sum of the paper's equation (2).
-- Assumes nothing.
use Rattle.std.specs.Prelude.{List, ℕ, zero, suc, ◌*◌, ◌≤◌}
use Rattle.parsimony.specs.Lists.{sum}
use Rattle.parsimony.specs.Table.{ancestor, nodes, below}
use Rattle.parsimony.specs.Kind.{Kind, In}

module _ (K : Kind) where
  -- the change from the node k to its ancestor; none where there is no ancestor
  abbrev pub change_to : (ℕ → K.State) → ℕ → ℕ → ℕ
  change_to w k zero = 0
  change_to w k (suc a) = K.distance (w k) (w (suc a))

  abbrev pub change : List ℕ → (ℕ → K.State) → ℕ → ℕ
  change tree w k = change_to w k (ancestor tree k)

  -- the length of a way: the sum of the changes, over all nodes
  abbrev pub length_of : List ℕ → (ℕ → K.State) → ℕ
  length_of tree w = sum (change tree w) (nodes tree)

  -- its length below v: the same sum over the nodes below v
  abbrev pub length_below : List ℕ → ℕ → (ℕ → K.State) → ℕ
  length_below tree v w = sum (λ k. below tree v k * change tree w k) (nodes tree)

  -- a way agrees with the cells: the state of each of the n taxa is in the taxon's cell
  abbrev pub Agrees : ℕ → (ℕ → K.Region) → (ℕ → K.State) → Type 0
  Agrees n cell w = (k : ℕ) → 1 ≤ k → k ≤ n → In K (w k) (cell k)

  -- it agrees below v: with the cells of the taxa below v
  abbrev pub AgreesBelow : ℕ → (ℕ → K.Region) → List ℕ → ℕ → (ℕ → K.State) → Type 0
  AgreesBelow n cell tree v w = (k : ℕ) → 1 ≤ k → k ≤ n → 1 ≤ below tree v k → In K (w k) (cell k)
