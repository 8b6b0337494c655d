-- The worked examples: one list, and one claim that holds over it.
--     Claims      what an example is, and what it claims
--     Entries     a test of a tree table and of the entries of a first pass that is computed, and what holds where it passes
--     Checking    a test of an example that is computed, and that the claim holds where it passes
-- Assumes nothing.
use mathlib.Core.Path.{◌≡◌, refl}
use mathlib.Core.List.{List, [], ◌∷◌}
use Prim.Native.Nat.{◌-◌}
use native.Mathlib.Decide.{ℕ_discrete, dec_le}
use lib.ListN.{get_or}
use Rattle.parsimony.specs.Lists.{same, without}
use Rattle.parsimony.specs.Table.{having}
use Rattle.parsimony.specs.Ordered.{insert, sorted, ordered}
use Rattle.parsimony.specs.Way.{length_of}
use Rattle.parsimony.specs.Character.{way_of}
use Rattle.parsimony.specs.Index.{fraction, none}
pub mod Claims
mod Entries
mod Checking
use Claims.{Character, Correction, Example, joins, scores, corrects, AllHold}
use Checking.{all_hold, above_by, index_test}

-- the handout of document 01, with its two characters
handout_1 : Character
handout_1 =
    record {
      n = 4;
      tree = 0 ∷ 5 ∷ 6 ∷ 6 ∷ 1 ∷ 5 ∷ [];
      ρ = 1;
      δ = 5;
      states = 0 ∷ 3 ∷ 1 ∷ 5 ∷ [];
      lows = 3 ∷ 1 ∷ [];
      highs = 3 ∷ 5 ∷ [];
      lengths = 4 ∷ 4 ∷ [];
      final_lows = 1 ∷ 1 ∷ [];
      final_highs = 3 ∷ 3 ∷ [];
      acctran = 3 ∷ 3 ∷ [];
      deltran = 1 ∷ 1 ∷ [];
      length' = 7;
      m' = 5;
      g' = 9;
      ci' = fraction 5 7;
      ri' = fraction 2 4;
    }

handout_2 : Character
handout_2 =
    record {
      n = 4;
      tree = 0 ∷ 5 ∷ 6 ∷ 6 ∷ 1 ∷ 5 ∷ [];
      ρ = 1;
      δ = 5;
      states = 0 ∷ 1 ∷ 1 ∷ 0 ∷ [];
      lows = 1 ∷ 0 ∷ [];
      highs = 1 ∷ 1 ∷ [];
      lengths = 1 ∷ 1 ∷ [];
      final_lows = 0 ∷ 0 ∷ [];
      final_highs = 1 ∷ 1 ∷ [];
      acctran = 1 ∷ 1 ∷ [];
      deltran = 0 ∷ 0 ∷ [];
      length' = 2;
      m' = 1;
      g' = 2;
      ci' = fraction 1 2;
      ri' = fraction 0 1;
    }

-- its first character with the state 3 at taxon 4, whose path to the root has both interior nodes
taxon_4 : Correction
taxon_4 =
    record {
      before = handout_1;
      taxon = 4;
      state = 3;
      lows = 3 ∷ 1 ∷ [];
      highs = 3 ∷ 3 ∷ [];
      lengths = 2 ∷ 2 ∷ [];
      length' = 5;
      count = 2;
    }

-- and with the state 4 at taxon 1, the root: only the length changes
taxon_1 : Correction
taxon_1 =
    record {
      before = handout_1;
      taxon = 1;
      state = 4;
      lows = 3 ∷ 1 ∷ [];
      highs = 3 ∷ 5 ∷ [];
      lengths = 4 ∷ 4 ∷ [];
      length' = 5;
      count = 0;
    }

-- three taxa that are all alike
alike : Character
alike =
    record {
      n = 3;
      tree = 0 ∷ 4 ∷ 4 ∷ 1 ∷ [];
      ρ = 1;
      δ = 4;
      states = 2 ∷ 2 ∷ 2 ∷ [];
      lows = 2 ∷ [];
      highs = 2 ∷ [];
      lengths = 0 ∷ [];
      final_lows = 2 ∷ [];
      final_highs = 2 ∷ [];
      acctran = 2 ∷ [];
      deltran = 2 ∷ [];
      length' = 0;
      m' = 0;
      g' = 0;
      ci' = none;
      ri' = none;
    }

-- the tree and the states of the paper's Figure 4A, with the ranges of Figures 5A and 5B and the reconstructions of Figures 6H and 6A
figure_4 : Character
figure_4 =
    record {
      n = 7;
      tree = 8 ∷ 8 ∷ 9 ∷ 9 ∷ 11 ∷ 11 ∷ 0 ∷ 10 ∷ 10 ∷ 12 ∷ 12 ∷ 7 ∷ [];
      ρ = 7;
      δ = 12;
      states = 2 ∷ 4 ∷ 5 ∷ 6 ∷ 0 ∷ 3 ∷ 1 ∷ [];
      lows = 2 ∷ 5 ∷ 4 ∷ 0 ∷ 3 ∷ [];
      highs = 4 ∷ 6 ∷ 5 ∷ 3 ∷ 4 ∷ [];
      lengths = 2 ∷ 1 ∷ 4 ∷ 3 ∷ 8 ∷ [];
      final_lows = 2 ∷ 5 ∷ 2 ∷ 1 ∷ 1 ∷ [];
      final_highs = 4 ∷ 5 ∷ 4 ∷ 3 ∷ 3 ∷ [];
      acctran = 4 ∷ 5 ∷ 4 ∷ 3 ∷ 3 ∷ [];
      deltran = 2 ∷ 5 ∷ 2 ∷ 1 ∷ 1 ∷ [];
      length' = 10;
      m' = 6;
      g' = 16;
      ci' = fraction 6 10;
      ri' = fraction 6 10;
    }

-- P1 to P12 of document 01 in its order; then document 01's neighbouring ranges, and the paper's own example
pub examples : List Example
examples =
    joins 1 1 5 5 1 5 4
    ∷ joins 1 3 5 6 3 5 2
    ∷ joins 1 3 2 4 2 3 0
    ∷ joins 3 3 1 5 3 3 0
    ∷ joins 0 2 2 2 2 2 0
    ∷ joins 9999 9999 0 0 0 9999 9999
    ∷ joins 4 4 4 4 4 4 0
    ∷ scores handout_1
    ∷ scores handout_2
    ∷ corrects taxon_4
    ∷ corrects taxon_1
    ∷ scores alike
    ∷ joins 1 3 4 6 3 4 1
    ∷ scores figure_4
    ∷ []

pub examples_hold : AllHold examples
unfolding examples handout_1 handout_2 taxon_4 taxon_1 alike figure_4 insert sorted having same without above_by index_test ℕ_discrete dec_le
examples_hold = all_hold examples tt

-- "The choice 1,3 has length 9": on the handout's first character, a state of each final range taken by itself. The least length is 7.
pub choice_1_3 : length_of ordered (0 ∷ 5 ∷ 6 ∷ 6 ∷ 1 ∷ 5 ∷ []) (way_of 4 (λ k. get_or (0 ∷ 3 ∷ 1 ∷ 5 ∷ []) (k - 1) 0) (1 ∷ 3 ∷ [])) ≡ 9
unfolding dec_le
choice_1_3 = refl
