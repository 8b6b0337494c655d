-- What a worked example is, and what it claims. A claim speaks of the meanings of specs/Meaning.antt, with the numbers that a document prints.
-- Assumes nothing.
use mathlib.Core.Path.{◌≡◌}
use mathlib.Core.List.{List, [], ◌∷◌}
use Prim.Native.Nat.{ℕ, ◌-◌, ◌≤◌, ◌<◌}
use native.Mathlib.Decide.{ℕ_discrete}
use lib.ListN.{length, get_or}
use Rattle.parsimony.specs.Lists.{choose}
use Rattle.parsimony.specs.Table.{below, between, Accepted}
use Rattle.parsimony.specs.Ordered.{span, join, cost, ordered}
use Rattle.parsimony.specs.Meaning.{LengthMeans, Reconstructs}
use Rattle.parsimony.specs.Steps.{Chosen}
use Rattle.parsimony.specs.Character.{at_node, cells, ranges, way_of, FirstMeans, FinalsMean}
use Rattle.parsimony.specs.Index.{Index, m, g, ci, ri}

-- One character on one tree: the tree's table with its root and the root's descendant, the states of the taxa, and what is said of them. Lists of
-- nodes begin with the node n + 1.
pub record Character : Type 0 where
  pub n : ℕ
  pub tree : List ℕ
  pub ρ : ℕ
  pub δ : ℕ
  pub states : List ℕ
  -- the first pass, the final ranges, and the two reconstructions
  pub lows : List ℕ
  pub highs : List ℕ
  pub lengths : List ℕ
  pub final_lows : List ℕ
  pub final_highs : List ℕ
  pub acctran : List ℕ
  pub deltran : List ℕ
  -- the length and the indices
  pub length' : ℕ
  pub m' : ℕ
  pub g' : ℕ
  pub ci' : Index
  pub ri' : Index

-- the state of a taxon in a list of them
abbrev pub state_in : List ℕ → ℕ → ℕ
state_in states k = get_or states (k - 1) 0

-- the numbers of a character mean what they should
pub record Scored (c : Character) : Type 0 where
  pub accepted : Accepted c.n c.tree c.ρ c.δ
  pub first : FirstMeans c.n (state_in c.states) c.tree c.lows c.highs c.lengths
  pub finals : FinalsMean c.n (state_in c.states) c.tree c.final_lows c.final_highs
  pub least : LengthMeans ordered c.n (cells c.n (state_in c.states)) c.tree c.length'
  -- ACCTRAN's states are chosen by its rule, and are a shortest way; so are DELTRAN's
  pub acctran_chosen : Chosen ordered c.n (cells c.n (state_in c.states)) c.tree c.ρ
      (ranges c.n (state_in c.states) c.lows c.highs) (way_of c.n (state_in c.states) c.acctran)
  pub acctran_shortest : Reconstructs ordered c.n (cells c.n (state_in c.states)) c.tree
      (way_of c.n (state_in c.states) c.acctran)
  pub deltran_chosen : Chosen ordered c.n (cells c.n (state_in c.states)) c.tree c.ρ
      (ranges c.n (state_in c.states) c.final_lows c.final_highs) (way_of c.n (state_in c.states) c.deltran)
  pub deltran_shortest : Reconstructs ordered c.n (cells c.n (state_in c.states)) c.tree
      (way_of c.n (state_in c.states) c.deltran)
  pub m_is : m c.n (state_in c.states) ≡ c.m'
  pub g_is : g c.n (state_in c.states) c.ρ ≡ c.g'
  pub ci_is : ci c.m' c.length' ≡ c.ci'
  pub ri_is : ri c.m' c.length' c.g' ≡ c.ri'

-- One cell corrected: the character before, with its entries; the taxon, and its new state; then what is said of the entries of the first pass and
-- of the length afterwards, and the count of the entries that are rewritten.
pub record Correction : Type 0 where
  pub before : Character
  pub taxon : ℕ
  pub state : ℕ
  pub lows : List ℕ
  pub highs : List ℕ
  pub lengths : List ℕ
  pub length' : ℕ
  pub count : ℕ

module _ (c : Correction) where
  open c use {before, taxon, state, lows, highs, lengths, length', count}
  open before use {n, tree, ρ, δ, states}

  -- the state of a taxon afterwards: the new one of the taxon that is corrected, and of any other the one it had
  abbrev pub state_after : ℕ → ℕ
  state_after k = choose (ℕ_discrete k taxon) state (state_in states k)

  -- the entry of a node is as before
  abbrev pub AsBefore : ℕ → Type 0
  AsBefore v =
      (at_node n lows v ≡ at_node n before.lows v) × (at_node n highs v ≡ at_node n before.highs v)
      × (at_node n lengths v ≡ at_node n before.lengths v)

  -- the numbers of a correction mean what they should
  pub record Corrected : Type 0 where
    pub accepted : Accepted n tree ρ δ
    pub some : 1 ≤ taxon
    pub most : taxon ≤ n
    -- the entries had their meaning, and have it for the corrected states; so has the length
    pub first-before : FirstMeans n (state_in states) tree before.lows before.highs before.lengths
    pub first : FirstMeans n state_after tree lows highs lengths
    pub least : LengthMeans ordered n (cells n state_after) tree length'
    -- nothing is rewritten off the path from the taxon to the root, and the count is the number of the interior nodes on it
    pub kept : (v : ℕ) → n < v → v ≤ length tree → below tree v taxon ≡ 0 → AsBefore v
    pub count_is : between n tree taxon ≡ count

pub data Example : Type 0 where
  -- two ranges, from low to high each; then their join, low and high; then its cost
  joins : ℕ → ℕ → ℕ → ℕ → ℕ → ℕ → ℕ → Example
  scores : Character → Example
  corrects : Correction → Example

-- what an example claims
abbrev pub Holds : Example → Type 0
Holds (joins a b c d low high cost') =
    (join (span a b ∷ span c d ∷ []) ≡ span low high) × (cost (span a b ∷ span c d ∷ []) ≡ cost')
Holds (scores c) = Scored c
Holds (corrects c) = Corrected c

abbrev pub AllHold : List Example → Type 0
AllHold [] = Unit {0}
AllHold (e ∷ es) = Holds e × AllHold es
