-- Which kept entries no pass leaves: refusal 10, in one character, in all, and beside the path of a correction.
-- Assumes nothing.
use Rattle.std.specs.Prelude.{◌≡◌, ◌≢◌, ◌⊎◌, List, ℕ, ◌-◌, ◌*◌, ◌≤◌, ◌<◌, length, get_or, Option, Some, None}
use Rattle.parsimony.specs.Table.{ancestor, below}
use Rattle.parsimony.specs.Character.{at_node}
use Rattle.refusals.specs.Search.{Lowest, Never}
use Rattle.refusals.specs.Checks.{Check, lowest}
use Rattle.tables.specs.Tables.{stretch, TableLong}

-- "a kept entry with low above high, high above 9999 or length above 5,089,491"
abbrev pub Bad : (low high l : ℕ) → Type 0
Bad low high l = (high < low) ⊎ ((9999 < high) ⊎ (5089491 < l))

-- the entry of the node v is bad, in three lists of one character
abbrev pub BadAt : (n : ℕ) (lows highs lengths : List ℕ) (v : ℕ) → Type 0
BadAt n lows highs lengths v = (n < v) × Bad (at_node n lows v) (at_node n highs v) (at_node n lengths v)

-- in the stretch of the character j
abbrev pub BadIn : (n : ℕ) (lows highs lengths : List ℕ) (j v : ℕ) → Type 0
BadIn n lows highs lengths j = BadAt n (stretch (n - 2) lows j) (stretch (n - 2) highs j) (stretch (n - 2) lengths j)

-- v is an interior descendant, off the path from the taxon t to the root, of an interior node on it, and its entry is bad
abbrev pub BadBeside : (n t : ℕ) (tree lows highs lengths : List ℕ) (v : ℕ) → Type 0
BadBeside n t tree lows highs lengths v =
    (n < ancestor tree v) × (1 ≤ below tree (ancestor tree v) t) × (below tree v t ≡ 0) × BadAt n lows highs lengths v

-- ---- the checks

-- in one character: its lowest node
abbrev pub character_entries : (n : ℕ) (lows highs lengths : List ℕ) → Check
character_entries n lows highs lengths = lowest 10 (BadAt n lows highs lengths) (2 * n - 2)

-- in all: "its node, lowest of the lowest character"
abbrev pub all_entries : (n c : ℕ) (lows highs lengths : List ℕ) → Check
all_entries n c lows highs lengths =
    record {
      number = 10;
      At = λ p. (j : ℕ) × ((1 ≤ j) × (j ≤ c)) × Lowest (BadIn n lows highs lengths j) (2 * n - 2) p
          × ((i : ℕ) → 1 ≤ i → i < j → Never (BadIn n lows highs lengths i) (2 * n - 2));
    }

-- beside the path
abbrev pub beside_entries : (n t : ℕ) (tree lows highs lengths : List ℕ) → Check
beside_entries n t tree lows highs lengths = lowest 10 (BadBeside n t tree lows highs lengths) (2 * n - 2)

-- ---- the searches

pub record OneCharacter (n : ℕ) (lows highs lengths : List ℕ) : Type 0 where
  pub least : 3 ≤ n
  pub most : n ≤ 256
  pub low_long : length lows ≡ n - 2
  pub high_long : length highs ≡ n - 2
  pub length_long : length lengths ≡ n - 2

pub record AllCharacters (n c : ℕ) (lows highs lengths : List ℕ) : Type 0 where
  pub least : 3 ≤ n
  pub most : n ≤ 256
  pub few : c ≤ 512
  pub long : TableLong n c lows highs lengths

-- what the search through all found
abbrev pub FindsEntry : (n c : ℕ) (lows highs lengths : List ℕ) → Option ℕ → Type 0
FindsEntry n c lows highs lengths (Some p) = (all_entries n c lows highs lengths).At p
FindsEntry n c lows highs lengths None = (j : ℕ) → 1 ≤ j → j ≤ c → Never (BadIn n lows highs lengths j) (2 * n - 2)

-- ---- marks

-- the path has interior nodes
pub record Marks (n count : ℕ) (path : List ℕ) : Type 0 where
  pub few : count ≤ 254
  pub inner : (i : ℕ) → i < count → (n < get_or path i 0) × (get_or path i 0 - n - 1 < 254)

-- a node is marked exactly if it is one of the first `count` of the path
pub record Marked (n count : ℕ) (path marks : List ℕ) : Type 0 where
  pub long : length marks ≡ 254
  pub on : (i : ℕ) → i < count → at_node n marks (get_or path i 0) ≡ 1
  pub off : (v : ℕ) → n < v → ((i : ℕ) → i < count → get_or path i 0 ≢ v) → at_node n marks v ≡ 0

-- ---- beside the path

-- by the marks, the node v is off the path, and its ancestor a is an interior node on it
abbrev pub Beside : (n v a : ℕ) (marks : List ℕ) → Type 0
Beside n v a marks = (n < a) × (at_node n marks a ≢ 0) × (at_node n marks v ≡ 0)

-- and its entry is bad
abbrev pub BadMarked : (n : ℕ) (tree marks lows highs lengths : List ℕ) (v : ℕ) → Type 0
BadMarked n tree marks lows highs lengths v = Beside n v (ancestor tree v) marks × BadAt n lows highs lengths v

pub record Besides (n : ℕ) (tree lows highs lengths : List ℕ) : Type 0 where
  pub nodes : length tree ≡ 2 * n - 2
  pub within : (k : ℕ) → ancestor tree k ≤ length tree
  pub lists : OneCharacter n lows highs lengths
