-- A tree, as a table of ancestors: the k-th entry, counted from 1, is the ancestor of the node k, and 0 marks the root.
-- Taxa are the nodes 1 to n, and interior nodes those above n.
-- Assumes nothing.
use Rattle.std.specs.Prelude.{◌≡◌, ◌≢◌, List, [], ◌∷◌, ℕ, zero, suc, ◌+◌, ◌-◌, ◌≤◌, ◌<◌, min, length, get_or}
use Rattle.std.proofs.Math.Decide.{ℕ_discrete}
use Rattle.parsimony.specs.Lists.{sum, from, choose, same, without}

-- the ancestor of a node; 0 where there is none: of the root, of 0, and past the table
abbrev pub ancestor : List ℕ → ℕ → ℕ
ancestor tree zero = 0
ancestor tree (suc i) = get_or tree i 0

-- the nodes, in rising order
abbrev pub nodes : List ℕ → List ℕ
nodes tree = from 1 (length tree)

-- those nodes of a list whose ancestor is v
unfoldable pub having : List ℕ → ℕ → List ℕ → List ℕ
having tree v [] = []
having tree v (k ∷ ks) =
    let rest = having tree v ks in
    choose (ℕ_discrete v (ancestor tree k)) (k ∷ rest) rest

-- the descendants of v: the nodes whose ancestor it is, in rising order
abbrev pub descendants : List ℕ → ℕ → List ℕ
descendants tree v = having tree v (nodes tree)

-- the sisters of v: the other descendants of its ancestor
abbrev pub sisters : List ℕ → ℕ → List ℕ
sisters tree v = without v (descendants tree (ancestor tree v))

-- where climbing from k comes to in s steps, each from a node to its ancestor
abbrev pub climb : List ℕ → ℕ → ℕ → ℕ
climb tree zero k = k
climb tree (suc s) k = climb tree s (ancestor tree k)

-- how many nodes a climb from k has in its first s steps: 0 is none
abbrev pub deep : List ℕ → ℕ → ℕ → ℕ
deep tree zero k = 0
deep tree (suc s) k = min 1 k + deep tree s (ancestor tree k)

-- how often climbing from k stands at v in its first s steps, the start among them
abbrev pub meets : List ℕ → ℕ → ℕ → ℕ → ℕ
meets tree zero v k = 0
meets tree (suc s) v k = same v k + meets tree s v (ancestor tree k)

-- 1 if k is below v, so that climbing from k comes to v in one step or more, and else 0.
-- In a tree, whoever climbs leaves the table in as many steps as there are nodes, and stands nowhere twice (`below_is` of proofs/Theorems.antt).
abbrev pub below : List ℕ → ℕ → ℕ → ℕ
below tree v k = meets tree (length tree) v (ancestor tree k)

-- the number of interior nodes between a node and the root
abbrev pub between : ℕ → List ℕ → ℕ → ℕ
between n tree k = sum (λ v. below tree v k) (from (suc n) (length tree - n))

-- The table is a tree of the taxa 1 to n: its root is the taxon ρ, the root's descendant is δ.
pub record IsTree (n : ℕ) (tree : List ℕ) (ρ δ : ℕ) : Type 0 where
  -- the root is a taxon, and has the only 0 entry
  pub some : 1 ≤ ρ
  pub taxon : ρ ≤ n
  pub root : ancestor tree ρ ≡ 0
  pub sole : (k : ℕ) → 1 ≤ k → k ≤ length tree → ancestor tree k ≡ 0 → k ≡ ρ
  -- there are interior nodes, and every other entry is a node
  pub more : n < length tree
  pub within : (k : ℕ) → ancestor tree k ≤ length tree
  -- no other taxon has a descendant, the root has one, and each interior node has several
  pub leaf : (k : ℕ) → 1 ≤ k → k ≤ n → k ≢ ρ → descendants tree k ≡ []
  pub stem : descendants tree ρ ≡ δ ∷ []
  pub fork : (k : ℕ) → n < k → k ≤ length tree → 2 ≤ length (descendants tree k)
  -- each node comes to the root in some number of steps
  pub reach : (k : ℕ) → 1 ≤ k → k ≤ length tree → (s : ℕ) × (climb tree s k ≡ ρ)

-- The tables that document 01 accepts: trees in which each interior node has two descendants. The theorems need `IsTree` alone.
pub record Accepted (n : ℕ) (tree : List ℕ) (ρ δ : ℕ) : Type 0 where
  pub is_tree : IsTree n tree ρ δ
  pub two : (k : ℕ) → n < k → k ≤ length tree → length (descendants tree k) ≡ 2
