-- The lines of one character after another, the whole report, and its room: 132 bytes for the tree, 119 for each character and 30 for each of its
-- interior nodes are 132 + 59c + 30nc, and with c at most 512 and nc at most 16,384 that is 521,860 at the most.
-- Assumes nothing.
use mathlib.Core.Path.{◌≡◌, refl, sym, ◌∙◌, ap, subst}
use mathlib.Core.List.{List, [], ◌++◌}
use Prim.Native.Nat.{ℕ, zero, suc, ◌+◌, ◌-◌, ◌*◌, ◌≤◌, ◌<◌}
use native.Mathlib.Decide.{ℕ_discrete, dec_le}
use native.Mathlib.Nat.{suc-mul, mul_comm, mul-add, mul_left_comm, mul-le-mul_right}
use native.Mathlib.Numerals.{add-one}
use native.Mathlib.Omega.{arith}
use lib.ListN.{length, take, length-take}
use lib.Seq.{length-sets}
use Rattle.std.specs.Prelude.{None}
use Rattle.std.proofs.Common.{replicate}
use Rattle.std.proofs.lemmas.List.{length-replicate}
use Rattle.parsimony.specs.Lists.{choose}
use Rattle.parsimony.specs.Table.{Accepted}
use Rattle.parsimony.specs.Matrix.{state_of}
use Rattle.parsimony.proofs.Sums.{choose_yes, choose_no}
use Rattle.choices.specs.declared.Resolve.{Resolve}
use Rattle.trees.proofs.Unique.{one-shape}
use Rattle.scores.specs.declared.Scores.{Scores}
use Rattle.scores.specs.Scores.{Results, AllLong, CharacterMeans}
use Rattle.characters.specs.Afresh.{OneScored}
use Rattle.fields.specs.Fitting.{Fitting}
use Rattle.fields.proofs.Pieces.{written_none}
use Rattle.fields.proofs.Room.{looser, fitting-both}
use Rattle.summaries.specs.Rooms.{tree_room}
use Rattle.layouts.specs.Report.{character_lines}
use Rattle.layouts.specs.Rooms.{character_room, Lists}
use Rattle.turns.specs.Lines.{Found, lines_to, One, Some}

-- ---- the room

-- c characters of n - 2 nodes each
pub characters-room : (n c : ℕ) → 3 ≤ n → c ≤ 512 → n * c ≤ 16384 → tree_room + c * character_room (n - 2) ≤ 524288
characters-room n c h g few =
    let nodes : c * n ≡ c * (n - 2) + c * 2 = ap (λ k. c * k) (let e : n ≡ (n - 2) + 2 = omega arith in e) ∙ mul-add c (n - 2) 2 in
    omega (arith, mul-add c 119 (30 * (n - 2)), mul_left_comm c 30 (n - 2), nodes, mul_comm n c)

-- one more character has room where all have
pub turn-room : (k c room : ℕ) → k < c → suc k * room ≤ c * room
turn-room k c room h = mul-le-mul_right room h

-- ---- one character

-- room for what is found of a character: of 254 entries, w are lent
abbrev pub room : ℕ → List ℕ
room w = take w (replicate 254 0)

abbrev pub rooms : ℕ → Results
rooms w = record { first_lows = room w; first_highs = room w; subtree = room w; final_lows = room w; final_highs = room w; states = room w }

-- as many as there are interior nodes
pub rooms-long : (n w : ℕ) → w ≡ n - 2 → n ≤ 256 → AllLong n (rooms w)
rooms-long n w e h =
    record { first_lows = long; first_highs = long; subtree = long; final_lows = long; final_highs = long; states = long }
  where
    long : length (room w) ≡ n - 2
    long = omega (arith, e, length-take w (replicate {0} {A = ℕ} 254 0), length-replicate {0} {A = ℕ} 254 0)

-- lists of the right length have an entry for each interior node
pub lists_of : (n : ℕ) (r : Results) → 3 ≤ n → AllLong n r → Lists r.first_lows r.first_highs r.final_lows r.final_highs r.states
lists_of n r h L =
    record {
      some = omega (arith, L.first_lows);
      first_high = L.first_lows ∙ sym L.first_highs;
      final_low = L.final_lows ∙ sym L.first_lows;
      final_high = L.final_lows ∙ sym L.final_highs;
      states = L.states ∙ sym L.first_lows;
    }

-- what one character's call answers, written
pub one_put : (n c j : ℕ) (r : Resolve) (tree matrix : List ℕ) (before results : Results) (s : Scores) (out out' : List ℕ) (at next : ℕ)
    → OneScored n c j r tree matrix before results s
    → Fitting out out' at next (character_lines j s results) (character_room (length results.first_lows))
    → One n c j r tree matrix results out out' at next
one_put n c j r tree matrix before results s out out' at next O f =
    record {
      scores = s;
      ρ = O.ρ;
      δ = O.δ;
      accepted = O.accepted;
      means = O.means;
      fitting = subst (λ w. Fitting out out' at next (character_lines j s results) (character_room w)) O.means.long.first_lows f;
    }

-- ---- one after another

-- what is found, and of the character j this
with : (ℕ → Found) → ℕ → Found → ℕ → Found
with found j f i = choose (ℕ_discrete i j) f (found i)

with_there : (found : ℕ → Found) (j : ℕ) (f : Found) → with found j f j ≡ f
unfolding with
with_there found j f = choose_yes (ℕ_discrete j j) f (found j) refl

with_below : (found : ℕ → Found) (j : ℕ) (f : Found) (i : ℕ) → i < j → with found j f i ≡ found i
unfolding with
with_below found j f i h = choose_no (ℕ_discrete i j) f (found i) (λ (e : i ≡ j). omega arith)

-- lines depend on what is found of their characters
pub lines_alike : (found found' : ℕ → Found) (k : ℕ) → ((i : ℕ) → 1 ≤ i → i ≤ k → found i ≡ found' i) → lines_to found k ≡ lines_to found' k
lines_alike found found' zero h = refl
lines_alike found found' (suc k) h =
    rw (lines_alike found found' k (λ i p q. h i p (omega arith)), h (suc k) (omega arith) (omega arith))

-- the lines of no character
pub some-none : (n c : ℕ) (r : Resolve) (tree matrix out : List ℕ) (at : ℕ) → (f : Found) → Some n c 0 r tree matrix out out at at
some-none n c r tree matrix out at f =
    record {
      found = λ i. f;
      each = λ ρ δ A j p q. let z : ⊥ = omega arith in absurd z;
      fitting = record { written = written_none out at; short = omega arith };
    }

module _ (n c k : ℕ) (r : Resolve) (tree matrix start : List ℕ) (at : ℕ) where
  -- one character more
  pub some_more : (results : Results) (out out' : List ℕ) (next next' : ℕ) → Some n c k r tree matrix start out at next
      → One n c (suc k) r tree matrix results out out' next next' → Some n c (suc k) r tree matrix start out' at next'
  some_more results out out' next next' S O =
      record {
        found = found;
        each = each;
        fitting =
            subst (λ (l : List ℕ). Fitting start out' at next' l (suc k * character_room (n - 2))) lines
            (looser start out' at next' (lines_to S.found k ++ character_lines (suc k) O.scores results) _ (suc k * character_room (n - 2))
            (fitting-both (lines_to S.found k) (character_lines (suc k) O.scores results) start out out' at next next' (k * character_room (n - 2))
            (character_room (n - 2)) S.fitting O.fitting)
            (omega (arith, suc-mul k (character_room (n - 2)))));
      }
    where
      new : Found
      new = record { scores = O.scores; results = results }

      found : ℕ → Found
      found = with S.found (suc k) new

      lines : lines_to S.found k ++ character_lines (suc k) O.scores results ≡ lines_to found (suc k)
      lines =
          ap (λ (l : List ℕ). l ++ character_lines (suc k) O.scores results)
          (lines_alike S.found found k (λ i p q. sym (with_below S.found (suc k) new i (omega arith))))
          ∙ ap (λ (f : Found). lines_to found k ++ character_lines (suc k) f.scores f.results) (sym (with_there S.found (suc k) new))

      each : (ρ δ : ℕ) → Accepted n tree ρ δ → (j : ℕ) → 1 ≤ j → j ≤ suc k
          → CharacterMeans n (state_of matrix c j) tree ρ r (found j).results (found j).scores
      each ρ δ A j p q = go (dec_le j k)
        where
          go : Dec (j ≤ k) → CharacterMeans n (state_of matrix c j) tree ρ r (found j).results (found j).scores
          go (yes l) =
              subst (λ (f : Found). CharacterMeans n (state_of matrix c j) tree ρ r f.results f.scores)
              (sym (with_below S.found (suc k) new j (omega arith))) (S.each ρ δ A j p l)
          go (no l) =
              let e : suc k ≡ j = omega arith in
              let shape : O.ρ ≡ ρ = (one-shape n tree O.ρ O.δ O.accepted ρ δ A).0 in
              subst (λ i. CharacterMeans n (state_of matrix c i) tree ρ r (found i).results (found i).scores) e
              (subst (λ (f : Found). CharacterMeans n (state_of matrix c (suc k)) tree ρ r f.results f.scores)
              (sym (with_there S.found (suc k) new))
              (subst (λ x. CharacterMeans n (state_of matrix c (suc k)) tree x r results O.scores) shape O.means))

-- ---- as the loop writes them

-- of no character
nothing : Found
nothing =
    record {
      scores = record { length = 0; m = 0; g = 0; ci = None; ri = None };
      results = record { first_lows = []; first_highs = []; subtree = []; final_lows = []; final_highs = []; states = [] };
    }

-- after k characters
pub record Turned (n c : ℕ) (r : Resolve) (tree matrix start : List ℕ) (at : ℕ) (out : List ℕ) (next k : ℕ) : Type 0 where
  pub size : length out ≡ length start
  pub some : Some n c k r tree matrix start out at next

module _ (n c : ℕ) (r : Resolve) (tree matrix start : List ℕ) (at : ℕ) where
  pub turned_none : Turned n c r tree matrix start at start at 0
  turned_none = record { size = refl; some = some-none n c r tree matrix start at nothing }

  module _ (out : List ℕ) (next k : ℕ) (T : Turned n c r tree matrix start at out next k) where
    pub turn-fits : k < c → at + c * character_room (n - 2) ≤ length start → next + character_room (n - 2) ≤ length out
    turn-fits h room =
        omega (
          arith,
          room,
          T.size,
          T.some.fitting.written.next_is,
          T.some.fitting.short,
          suc-mul k (character_room (n - 2)),
          turn-room k c (character_room (n - 2)) h,
        )

    pub turned_more : (results : Results) (out' : List ℕ) (next' : ℕ) → One n c (k + 1) r tree matrix results out out' next next'
        → Turned n c r tree matrix start at out' next' (k + 1)
    turned_more results out' next' O =
        record {
          size = ap length O.fitting.written.list ∙ length-sets out next (character_lines (k + 1) O.scores results) ∙ T.size;
          some =
              subst (λ i. Some n c i r tree matrix start out' at next') (sym (add-one k))
              (some_more n c k r tree matrix start at results out out' next next' T.some
              (subst (λ i. One n c i r tree matrix results out out' next next') (add-one k) O));
        }

    pub turned_all : k ≤ c → c ≤ k → Some n c c r tree matrix start out at next
    turned_all most h =
        let e : k ≡ c = omega arith in
        subst (λ i. Some n c i r tree matrix start out at next) e T.some
