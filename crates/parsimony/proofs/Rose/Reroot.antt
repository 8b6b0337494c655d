-- The tree seen from another of its nodes, and the states that shortest ways have there: the paper's Theorem 2.
-- Seen from a node, the tree is the node with its branches and the rest of the tree as one branch more, and the length of a way does not care.
-- Assumes nothing.
use mathlib.Core.Path.{◌≡◌, refl, sym, ◌∙◌, ap}
use mathlib.Core.List.{[], ◌∷◌, ◌++◌}
use Prim.Native.Nat.{ℕ, ◌+◌}
use native.Mathlib.Omega.{arith}
use Rattle.parsimony.specs.Kind.{Kind, Laws, In}
use Rattle.parsimony.proofs.Rose.Shapes.{Rose, Roses, tip, node, one, more, top, count, counts, Distinct}
use Rattle.parsimony.proofs.Rose.Lengths.{region, regions, least, length_in, lengths_in, Allowed, AllAllowed, lower, shortest_in}
use Rattle.parsimony.proofs.Rose.Painting.{with_region, some_shortest}

-- ---- the place of a tree in another

-- one list of trees behind another
infixr 60 ◌⊕◌
abbrev pub ◌⊕◌ : Roses → Roses → Roses
one t ⊕ g = more t g
more t f ⊕ g = more t (f ⊕ g)

-- a place among sisters: before them all, after the last, or further on
pub data Place : Type 0 where
  before : Roses → Place
  after : Rose → Place
  past : Rose → Place → Place

-- the branches, with a tree at the place
abbrev pub fill : Place → Rose → Roses
fill (before f) t = more t f
fill (after s) t = more s (one t)
fill (past s p) t = more s (fill p t)

-- the sisters
abbrev pub rest : Place → Roses
rest (before f) = f
rest (after s) = one s
rest (past s p) = more s (rest p)

-- what stands above a tree: the number of its ancestor, with the place among the ancestor's branches
pub data Up : Type 0 where
  root : ℕ → Place → Up
  under : ℕ → Place → Up → Up
  only : ℕ → Up → Up

-- the whole tree
abbrev pub plug : Up → Rose → Rose
plug (root k p) t = node k (fill p t)
plug (under k p u) t = plug u (node k (fill p t))
plug (only k u) t = plug u (node k (one t))

-- what stands above, as a tree with the ancestor on top
abbrev pub up_rose : Up → Rose
up_rose (root k p) = node k (rest p)
up_rose (under k p u) = node k (rest p ⊕ one (up_rose u))
up_rose (only k u) = node k (one (up_rose u))

-- the whole tree seen from the node v with the branches f
abbrev pub view : Up → ℕ → Roses → Rose
view u v f = node v (f ⊕ one (up_rose u))

-- ---- each number stands in the view as often as in the tree

counts-⊕ : (f g : Roses) (m : ℕ) → counts (f ⊕ g) m ≡ counts f m + counts g m
counts-⊕ (one t) g m = refl
counts-⊕ (more t f) g m = omega (arith, counts-⊕ f g m)

counts-fill : (p : Place) (t : Rose) (m : ℕ) → counts (fill p t) m ≡ count t m + counts (rest p) m
counts-fill (before f) t m = refl
counts-fill (after s) t m = omega arith
counts-fill (past s p) t m = omega (arith, counts-fill p t m)

pub count-plug : (u : Up) (t : Rose) (m : ℕ) → count (plug u t) m ≡ count t m + count (up_rose u) m
count-plug (root k p) t m = omega (arith, counts-fill p t m)
count-plug (under k p u) t m =
    omega (arith, count-plug u (node k (fill p t)) m, counts-fill p t m, counts-⊕ (rest p) (one (up_rose u)) m)
count-plug (only k u) t m = omega (arith, count-plug u (node k (one t)) m)

count-view : (u : Up) (v : ℕ) (f : Roses) (m : ℕ) → count (view u v f) m ≡ count (plug u (node v f)) m
count-view u v f m = omega (arith, count-plug u (node v f) m, counts-⊕ f (one (up_rose u)) m)

module _ (K : Kind) (cell : ℕ → K.Region) where
  open K use {State, Region, distance, away, join, nearest}

  -- ---- a way is allowed in the view just where it is in the tree

  -- how far the tips' states are from their cells, in all: a way is allowed where this is 0, and sums add up
  abbrev mutual
    pub off : Rose → (ℕ → State) → ℕ
    off (tip k) w = away (w k) (cell k)
    off (node k f) w = offs f w

    offs : Roses → (ℕ → State) → ℕ
    offs (one t) w = off t w
    offs (more t f) w = off t w + offs f w

  mutual
    pub allowed_off : (t : Rose) (w : ℕ → State) → Allowed K cell t w → off t w ≡ 0
    allowed_off (tip k) w h = h
    allowed_off (node k f) w h = all_allowed_offs f w h

    all_allowed_offs : (f : Roses) (w : ℕ → State) → AllAllowed K cell f w → offs f w ≡ 0
    all_allowed_offs (one t) w h = allowed_off t w h
    all_allowed_offs (more t f) w h = omega (arith, allowed_off t w h.0, all_allowed_offs f w h.1)

  mutual
    pub off_allowed : (t : Rose) (w : ℕ → State) → off t w ≡ 0 → Allowed K cell t w
    off_allowed (tip k) w h = h
    off_allowed (node k f) w h = offs_all_allowed f w h

    offs_all_allowed : (f : Roses) (w : ℕ → State) → offs f w ≡ 0 → AllAllowed K cell f w
    offs_all_allowed (one t) w h = off_allowed t w h
    offs_all_allowed (more t f) w h = (off_allowed t w (omega arith), offs_all_allowed f w (omega arith))

  offs_⊕ : (f g : Roses) (w : ℕ → State) → offs (f ⊕ g) w ≡ offs f w + offs g w
  offs_⊕ (one t) g w = refl
  offs_⊕ (more t f) g w = omega (arith, offs_⊕ f g w)

  offs_fill : (p : Place) (t : Rose) (w : ℕ → State) → offs (fill p t) w ≡ off t w + offs (rest p) w
  offs_fill (before f) t w = refl
  offs_fill (after s) t w = omega arith
  offs_fill (past s p) t w = omega (arith, offs_fill p t w)

  pub off-plug : (u : Up) (t : Rose) (w : ℕ → State) → off (plug u t) w ≡ off t w + off (up_rose u) w
  off-plug (root k p) t w = offs_fill p t w
  off-plug (under k p u) t w =
      omega (arith, off-plug u (node k (fill p t)) w, offs_fill p t w, offs_⊕ (rest p) (one (up_rose u)) w)
  off-plug (only k u) t w = off-plug u (node k (one t)) w

  off-view : (u : Up) (v : ℕ) (f : Roses) (w : ℕ → State) → off (view u v f) w ≡ off (plug u (node v f)) w
  off-view u v f w = omega (arith, off-plug u (node v f) w, offs_⊕ f (one (up_rose u)) w)

  -- ---- the region of a view

  -- the final region of the node v with the branches f
  abbrev pub final_at : Up → ℕ → Roses → Region
  final_at u v f = region K cell (view u v f)

  pub regions_⊕ : (f g : Roses) → regions K cell (f ⊕ g) ≡ regions K cell f ++ regions K cell g
  regions_⊕ (one t) g = refl
  regions_⊕ (more t f) g = ap (λ rs. region K cell t ∷ rs) (regions_⊕ f g)

  -- it is the join of the branches' regions and the region of what stands above
  pub final-joins : (u : Up) (v : ℕ) (f : Roses) → final_at u v f ≡ join (regions K cell f ++ (region K cell (up_rose u) ∷ []))
  final-joins u v f = ap join (regions_⊕ f (one (up_rose u)))

  -- ---- a way is as long in the view as in the tree

  lengths-⊕ : (f g : Roses) (w : ℕ → State) (x : State) → lengths_in K cell (f ⊕ g) w x ≡ lengths_in K cell f w x + lengths_in K cell g w x
  lengths-⊕ (one t) g w x = refl
  lengths-⊕ (more t f) g w x = omega (arith, lengths-⊕ f g w x)

  lengths-fill : (p : Place) (t : Rose) (w : ℕ → State) (x : State)
      → lengths_in K cell (fill p t) w x ≡ distance x (w (top t)) + length_in K cell t w + lengths_in K cell (rest p) w x
  lengths-fill (before f) t w x = refl
  lengths-fill (after s) t w x = omega arith
  lengths-fill (past s p) t w x = omega (arith, lengths-fill p t w x)

  module _ (laws : Laws K) where
    open laws use {either_way}

    pub length-plug : (u : Up) (t : Rose) (w : ℕ → State)
        → length_in K cell (plug u t) w ≡ length_in K cell t w + (distance (w (top t)) (w (top (up_rose u))) + length_in K cell (up_rose u) w)
    length-plug (root k p) t w = omega (arith, lengths-fill p t w (w k), either_way (w k) (w (top t)))
    length-plug (under k p u) t w =
        omega (
          arith,
          length-plug u (node k (fill p t)) w,
          lengths-fill p t w (w k),
          lengths-⊕ (rest p) (one (up_rose u)) w (w k),
          either_way (w k) (w (top t)),
        )
    length-plug (only k u) t w = omega (arith, length-plug u (node k (one t)) w, either_way (w k) (w (top t)))

    length-view : (u : Up) (v : ℕ) (f : Roses) (w : ℕ → State) → length_in K cell (view u v f) w ≡ length_in K cell (plug u (node v f)) w
    length-view u v f w = omega (arith, length-plug u (node v f) w, lengths-⊕ f (one (up_rose u)) w (w v))

    allowed_view : (u : Up) (v : ℕ) (f : Roses) (w : ℕ → State) → Allowed K cell (plug u (node v f)) w → Allowed K cell (view u v f) w
    allowed_view u v f w h = off_allowed (view u v f) w (off-view u v f w ∙ allowed_off (plug u (node v f)) w h)

    view_allowed : (u : Up) (v : ℕ) (f : Roses) (w : ℕ → State) → Allowed K cell (view u v f) w → Allowed K cell (plug u (node v f)) w
    view_allowed u v f w h = off_allowed (plug u (node v f)) w (sym (off-view u v f w) ∙ allowed_off (view u v f) w h)

    module _ (u : Up) (v : ℕ) (f : Roses) (d : Distinct (plug u (node v f))) where
      distinct_view : Distinct (view u v f)
      distinct_view m = omega (arith, d m, count-view u v f m)

      least-view : least K cell (view u v f) ≡ least K cell (plug u (node v f))
      least-view =
          let T : Rose = plug u (node v f) in
          let T' : Rose = view u v f in
          let (w, ok, e) = some_shortest K cell laws T d in
          let (w', ok', e') = some_shortest K cell laws T' distinct_view in
          omega (
            arith,
            lower K cell laws T w' (view_allowed u v f w' ok'),
            lower K cell laws T' w (allowed_view u v f w ok),
            length-view u v f w,
            length-view u v f w',
            e,
            e',
          )

      -- a shortest way's state at the node is in the node's final region
      pub final_only : (w : ℕ → State) → Allowed K cell (plug u (node v f)) w
          → length_in K cell (plug u (node v f)) w ≡ least K cell (plug u (node v f)) → In K (w v) (final_at u v f)
      final_only w h e =
          shortest_in K cell laws (view u v f) w (allowed_view u v f w h) (omega (arith, length-view u v f w, least-view))

      -- and each state of the final region is that of a shortest way
      pub final-all : (x : State) → In K x (final_at u v f)
          → (w : ℕ → State) × Allowed K cell (plug u (node v f)) w
          × (length_in K cell (plug u (node v f)) w ≡ least K cell (plug u (node v f))) × (w v ≡ x)
      final-all x h =
          let (w, ok, e, q) = with_region K cell laws (view u v f) distinct_view x h in
          (w, view_allowed u v f w ok, omega (arith, e, length-view u v f w, least-view), q)
