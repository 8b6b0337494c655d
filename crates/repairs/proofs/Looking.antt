-- The marks of a path tell which nodes are beside it.
-- Assumes nothing.
use mathlib.Core.Path.{◌≡◌, sym, ◌∙◌, ap, subst}
use mathlib.Core.Logic.{◌≢◌, ◌↔◌}
use mathlib.Core.List.{List}
use Prim.Native.Nat.{ℕ, zero, suc, ◌+◌, ◌-◌, ◌*◌, ◌≤◌, ◌<◌}
use native.Mathlib.Decide.{dec_le}
use native.Mathlib.Omega.{arith}
use lib.ListN.{length, get_or, take, get_or-append}
use lib.Seq.{sets-eq, length-take-le, get_or-take}
use Rattle.std.proofs.lemmas.List.{get_or_past}
use Rattle.std.proofs.lemmas.List.{get_or_past}
use Rattle.std.specs.Prelude.{Option, Some, None}
use Rattle.parsimony.specs.Table.{ancestor, climb, below}
use Rattle.parsimony.specs.Character.{at_node}
use Rattle.parsimony.proofs.Tables.Trees.{Tree, steps_below}
use Rattle.refusals.specs.Search.{Finds}
use Rattle.paths.specs.Paths.{path_of, Pathable, IsPath}
use Rattle.paths.proofs.Paths.{path-at, path-all, path-short}
use Rattle.shapes.proofs.Subtrees.{ancestor_in}
use Rattle.entries.specs.Entries.{BadBeside, Marks, Marked, BadMarked, Besides}
use Rattle.repairs.specs.Repairs.{Correctable, HasPath, Looks, Mends}

-- a search for one thing finds another, where both hold of the same numbers
pub finds_same : (P Q : ℕ → Type 0) (m : ℕ) → ((k : ℕ) → 1 ≤ k → k ≤ m → P k ↔ Q k) → (r : Option ℕ) → Finds P m r → Finds Q m r
finds_same P Q m h (Some k) F =
    record {
      some = F.some;
      most = F.most;
      holds = (h k F.some F.most).0 F.holds;
      first = λ j p l q. F.first j p l ((h j p (omega (arith, F.most))).1 q);
    }
finds_same P Q m h None F = λ k p l q. F k p l ((h k p l).1 q)

module _ (n t count : ℕ) (tree path lows highs lengths : List ℕ) (S : Looks n t count tree path lows highs lengths) where
  abbrev T : Tree
  T = record { n = n; tree = tree; ρ = S.ρ; δ = S.δ; is_tree = S.accepted.is_tree }

  -- the i-th node of the path
  step : (i : ℕ) → i < count → (get_or path i 0 ≡ climb tree (suc i) t) × (n < climb tree (suc i) t)
  step i l =
      let (e, lo) = path-at T t i (subst (λ k. i < k) S.listed.counts l) in
      (S.listed.nodes i l ∙ e, lo)

  step-last : (i : ℕ) → climb tree (suc i) t ≤ length tree
  step-last i = go i t
    where
      go : (i k : ℕ) → climb tree (suc i) k ≤ length tree
      go zero k = ancestor_in T k
      go (suc i) k = go i (ancestor tree k)

  pub few : count ≤ 254
  few = omega (arith, S.listed.counts, path-short T t, S.sized.nodes, S.sized.most)

  marks_of : Marks n count path
  marks_of =
      record {
        few = few;
        inner = λ i l.
            let (e, lo) = step i l in
            (omega arith, omega (arith, step-last i, S.sized.nodes, S.sized.most, S.sized.least));
      }

  -- the path alone, without the room behind it
  abbrev here : List ℕ
  here = take count path

  -- there is the room: each node of the path is read, and 0 is no node
  here-long : length here ≡ count
  here-long = length-take-le count path (go (dec_le count (length path)))
    where
      go : Dec (count ≤ length path) → count ≤ length path
      go (yes l) = l
      go (no l) = absurd (omega (arith, step (length path) (omega arith), get_or_past path (length path) 0 (omega arith)))

  pub marks-here : Marks n (length here) here
  marks-here =
      record {
        few = omega (arith, here-long, few);
        inner = λ i l.
            let h : i < count = omega (arith, here-long) in
            rw (get_or-take count path i 0 h) (marks_of.inner i h);
      }

  marked-here : (marks : List ℕ) → Marked n (length here) here marks → Marked n count path marks
  marked-here marks M =
      record {
        long = M.long;
        on = λ i l. subst (λ k. at_node n marks k ≡ 1) (get_or-take count path i 0 l) (M.on i (omega (arith, here-long)));
        off = λ v lo h. M.off v lo (λ i l e.
            let m : i < count = omega (arith, here-long) in
            h i m (sym (get_or-take count path i 0 m) ∙ e));
      }

  pub besides : Besides n tree lows highs lengths
  besides = record { nodes = S.sized.nodes; within = S.accepted.is_tree.within; lists = S.lists }

  module _ (marks : List ℕ) (M : Marked n count path marks) where
    -- a node of the path is marked
    on-path : (v : ℕ) → n < v → 1 ≤ below tree v t → at_node n marks v ≡ 1
    on-path v lo h =
        let (i, l, e) = path-all T t v lo h in
        let within : i < count = subst (λ k. i < k) (sym S.listed.counts) l in
        ap (at_node n marks) (sym ((step i within).0 ∙ e)) ∙ M.on i within

    -- and no other
    off-path : (v : ℕ) → n < v → below tree v t ≡ 0 → at_node n marks v ≡ 0
    off-path v lo h =
        M.off v lo (λ i l e. omega (arith, steps_below T v t i (omega arith) (sym (step i l).0 ∙ e)))

    beside_same : (v : ℕ) → 1 ≤ v → v ≤ 2 * n - 2 → BadMarked n tree marks lows highs lengths v ↔ BadBeside n t tree lows highs lengths v
    beside_same v p q = (
      λ (b, (lo, w)). (b.0, above b.0 b.1 (dec_le 1 (below tree (ancestor tree v) t)), away lo b.2 (dec_le 1 (below tree v t)), (lo, w)),
      λ (up, on, off, (lo, w)). ((up, λ z. omega (arith, on-path (ancestor tree v) up on), off-path v lo off), (lo, w)),
    )
      where
        above : n < ancestor tree v → at_node n marks (ancestor tree v) ≢ 0 → Dec (1 ≤ below tree (ancestor tree v) t)
            → 1 ≤ below tree (ancestor tree v) t
        above up h (yes l) = l
        above up h (no l) = absurd (h (off-path (ancestor tree v) up (omega arith)))

        away : n < v → at_node n marks v ≡ 0 → Dec (1 ≤ below tree v t) → below tree v t ≡ 0
        away lo h (yes l) = absurd (omega (arith, on-path v lo l))
        away lo h (no l) = omega arith

    -- what a search by the marks finds
    found-beside : (r : Option ℕ) → Finds (BadMarked n tree marks lows highs lengths) (2 * n - 2) r
        → Finds (BadBeside n t tree lows highs lengths) (2 * n - 2) r
    found-beside = finds_same (BadMarked n tree marks lows highs lengths) (BadBeside n t tree lows highs lengths) (2 * n - 2) beside_same

  -- and by the marks of the path alone
  pub found-here : (marks : List ℕ) → Marked n (length here) here marks → (r : Option ℕ)
      → Finds (BadMarked n tree marks lows highs lengths) (2 * n - 2) r → Finds (BadBeside n t tree lows highs lengths) (2 * n - 2) r
  found-here marks M = found-beside marks (marked-here marks M)

-- ---- from the whole to the path

module _ (n c t j : ℕ) (tree matrix lows highs lengths : List ℕ) (G : Correctable n c t j tree matrix lows highs lengths) where
  pub pathable : Pathable n tree t
  pathable =
      record {
        sized = G.cell.sized;
        ρ = G.cell.ρ;
        δ = G.cell.δ;
        accepted = G.cell.accepted;
        some = G.cell.taxon.0;
        most = omega (arith, G.cell.taxon.1, G.cell.sized.nodes, G.cell.sized.least);
      }

  module _ (before path : List ℕ) (count : ℕ) (long : length before ≡ 254) (P : IsPath n tree t before path count) where
    abbrev whole : Tree
    whole = record { n = n; tree = tree; ρ = G.cell.ρ; δ = G.cell.δ; is_tree = G.cell.accepted.is_tree }

    pub has-path : HasPath n t count tree path
    has-path =
        record {
          counts = P.counts;
          nodes = λ i l. ap (λ xs. get_or xs i 0) (P.lists ∙ sets-eq (path_of n tree t) before 0 room)
              ∙ get_or-append (path_of n tree t) _ 0 i (subst (λ k. i < k) P.counts l);
        }
      where
        room : 0 + length (path_of n tree t) ≤ length before
        room = omega (arith, path-short whole t, G.cell.sized.nodes, G.cell.sized.most)

    pub looks : Looks n t count tree path lows highs lengths
    looks =
        record { ρ = G.cell.ρ; δ = G.cell.δ; sized = G.cell.sized; accepted = G.cell.accepted; listed = has-path; lists = G.lists }

-- a path has few nodes
pub path-few : (n c t j s count : ℕ) (tree path matrix lows highs lengths : List ℕ) → Mends n c t j s count tree path matrix lows highs lengths
    → count ≤ 254
path-few n c t j s count tree path matrix lows highs lengths M =
    let C = M.given.cell in
    let whole : Tree = record { n = n; tree = tree; ρ = C.ρ; δ = C.δ; is_tree = C.accepted.is_tree } in
    omega (arith, M.listed.counts, path-short whole t, C.sized.nodes, C.sized.most)
