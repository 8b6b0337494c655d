-- The two descendants of each interior node, listed from both ends of the table: the first of them, in rising order, and the last.
-- Assumes nothing.
use mathlib.Core.Path.{◌≡◌, refl, sym, ◌∙◌, ap, ap₂}
use mathlib.Core.Logic.{◌≢◌}
use mathlib.Core.List.{List, [], ◌∷◌, ◌++◌}
use Prim.Native.Nat.{ℕ, suc, ◌+◌, ◌-◌, ◌≤◌, ◌<◌}
use native.Mathlib.Decide.{ℕ_discrete, dec_le}
use native.Mathlib.Numerals.{add-one}
use native.Mathlib.Omega.{arith}
use lib.ListN.{length, get_or, set, replicate, length-set}
use lib.Seq.{get_or-set_same, get_or-set_other}
use Rattle.parsimony.specs.Lists.{from, choose}
use Rattle.parsimony.specs.Table.{ancestor, having, descendants}
use Rattle.parsimony.specs.Character.{at_node}
use Rattle.parsimony.proofs.Sums.{from_more, zeros, choose_yes, choose_no}
use Rattle.trees.specs.Answers.{Sized}
use Rattle.shapes.specs.Shape.{Filled}
use Rattle.shapes.specs.Filling.{noted, Fillable}
use Rattle.parsimony.proofs.Tables.Descendants.{entry_at}

-- the last number of a list, and 0 of none
pub last : List ℕ → ℕ
last [] = 0
last (x ∷ []) = x
last (x ∷ y ∷ ys) = last (y ∷ ys)

pub first : List ℕ → ℕ
first [] = 0
first (x ∷ xs) = x

last_snoc : (xs : List ℕ) (y : ℕ) → last (xs ++ (y ∷ [])) ≡ y
unfolding last
last_snoc [] y = refl
last_snoc (x ∷ []) y = refl
last_snoc (x ∷ z ∷ zs) y = last_snoc (z ∷ zs) y

two_are : (xs : List ℕ) → length xs ≡ 2 → xs ≡ first xs ∷ last xs ∷ []
unfolding first last
two_are [] e = let z : ⊥ = omega arith in absurd z
two_are (x ∷ []) e = let z : ⊥ = omega arith in absurd z
two_are (x ∷ y ∷ []) e = refl
two_are (x ∷ y ∷ z ∷ zs) e = let w : ⊥ = omega arith in absurd w

module _ (tree : List ℕ) where
  -- the descendants of v among the first k nodes
  abbrev pub met : ℕ → ℕ → List ℕ
  met k v = having tree v (from 1 k)

  having-append : (v : ℕ) (xs ys : List ℕ) → having tree v (xs ++ ys) ≡ having tree v xs ++ having tree v ys
  unfolding having
  having-append v [] ys = refl
  having-append v (x ∷ xs) ys = go (ℕ_discrete v (ancestor tree x)) (having-append v xs ys)
    where
      go : (d : Dec (v ≡ ancestor tree x)) → having tree v (xs ++ ys) ≡ having tree v xs ++ having tree v ys
          → choose d (x ∷ having tree v (xs ++ ys)) (having tree v (xs ++ ys)) ≡ choose d (x ∷ having tree v xs) (having tree v xs) ++ having tree v
          ys
      go (yes e) ih = ap (λ zs. x ∷ zs) ih
      go (no e) ih = ih

  met-more : (k v : ℕ) → met (k + 1) v ≡ met k v ++ having tree v ((k + 1) ∷ [])
  met-more k v =
      ap (λ j. met j v) (add-one k) ∙ ap (having tree v) (from_more 1 k)
      ∙ having-append v (from 1 k) ((1 + k) ∷ []) ∙ ap (λ j. met k v ++ having tree v (j ∷ [])) (one_plus k)
    where
      one_plus : (k : ℕ) → 1 + k ≡ k + 1
      one_plus k = omega arith

  met_yes : (k v : ℕ) → v ≡ get_or tree k 0 → met (k + 1) v ≡ met k v ++ ((k + 1) ∷ [])
  unfolding having
  met_yes k v e =
      met-more k v
      ∙ ap (λ zs. met k v ++ zs) (choose_yes (ℕ_discrete v (ancestor tree (k + 1))) ((k + 1) ∷ []) [] (e ∙ sym (entry_at tree k)))

  met_no : (k v : ℕ) → v ≢ get_or tree k 0 → met (k + 1) v ≡ met k v
  unfolding having
  met_no k v h =
      met-more k v
      ∙ ap (λ zs. met k v ++ zs) (choose_no (ℕ_discrete v (ancestor tree (k + 1))) ((k + 1) ∷ []) [] (λ e. h (e ∙ entry_at tree k)))
      ∙ append-nil (met k v)
    where
      append-nil : (xs : List ℕ) → xs ++ [] ≡ xs
      append-nil [] = refl
      append-nil (x ∷ xs) = ap (λ zs. x ∷ zs) (append-nil xs)

  -- the descendants of v among the last k nodes
  abbrev pub rest : ℕ → ℕ → List ℕ
  rest k v = having tree v (from (suc (length tree - k)) k)

  -- the last k + 1 nodes begin with the node d + 1
  rest-more : (k d v : ℕ) → d + suc k ≡ length tree → rest (k + 1) v ≡ having tree v ((d + 1) ∷ from (suc (length tree - k)) k)
  rest-more k d v l =
      let node : suc (length tree - suc k) ≡ d + 1 = omega arith in
      let above : suc (length tree - suc k) ≡ length tree - k = omega arith in
      ap (λ j. rest j v) (add-one k) ∙ ap₂ (λ i j. having tree v (i ∷ from (suc j) k)) node above

  rest_yes : (k d v : ℕ) → d + suc k ≡ length tree → v ≡ get_or tree d 0 → rest (k + 1) v ≡ (d + 1) ∷ rest k v
  unfolding having
  rest_yes k d v l e =
      rest-more k d v l ∙ choose_yes (ℕ_discrete v (ancestor tree (d + 1))) ((d + 1) ∷ rest k v) (rest k v) (e ∙ sym (entry_at tree d))

  rest_no : (k d v : ℕ) → d + suc k ≡ length tree → v ≢ get_or tree d 0 → rest (k + 1) v ≡ rest k v
  unfolding having
  rest_no k d v l h =
      rest-more k d v l
      ∙ choose_no (ℕ_discrete v (ancestor tree (d + 1))) ((d + 1) ∷ rest k v) (rest k v) (λ e. h (e ∙ entry_at tree d))

-- ---- a list with one more node noted

module _ (n a node : ℕ) (list : List ℕ) where
  long-noted : length (noted n a node list) ≡ length list
  long-noted = go (dec_le a n)
    where
      go : (d : Dec (a ≤ n)) → length (choose d list (set list (a - n - 1) node)) ≡ length list
      go (yes l) = refl
      go (no l) = simp length-set

  -- at the entry's own node
  own : (v : ℕ) → n < v → v ≡ a → v - suc n < length list → at_node n (noted n a node list) v ≡ node
  own v lo r s = go (dec_le a n)
    where
      place : a - n - 1 ≡ v - suc n
      place = omega arith

      go : (d : Dec (a ≤ n)) → get_or (choose d list (set list (a - n - 1) node)) (v - suc n) 0 ≡ node
      go (yes l) = let z : ⊥ = omega arith in absurd z
      go (no l) = rw place (get_or-set_same list (v - suc n) node 0 s)

  -- at any other
  other : (v : ℕ) → n < v → v ≢ a → at_node n (noted n a node list) v ≡ at_node n list v
  other v lo r = go (dec_le a n)
    where
      go : (d : Dec (a ≤ n)) → get_or (choose d list (set list (a - n - 1) node)) (v - suc n) 0 ≡ at_node n list v
      go (yes l) = refl
      go (no l) = get_or-set_other list (a - n - 1) (v - suc n) node 0 (omega arith)

-- ---- what the lists have after k turns: the first descendants among the last k nodes, and the last among the first k

module _ (n : ℕ) (tree : List ℕ) where
  pub record ListsTo (k : ℕ) (left right : List ℕ) : Type 0 where
    pub lefts : length left ≡ 254
    pub rights : length right ≡ 254
    pub firsts : (v : ℕ) → n < v → v ≤ length tree → at_node n left v ≡ first (rest tree k v)
    pub lasts : (v : ℕ) → n < v → v ≤ length tree → 1 ≤ length (met tree k v) → at_node n right v ≡ last (met tree k v)

  -- an entry is a node, so the lists have its place
  pub entry-most : Fillable n tree → (k : ℕ) {x : ℕ} → x ≡ get_or tree k 0 → x ≤ n + 254
  entry-most F k {x} e = omega (arith, e, entry_at tree k, F.within (k + 1), F.sized.nodes, F.sized.most)

  pub lists-none : ListsTo 0 (replicate 254 0) (replicate 254 0)
  unfolding having first
  lists-none =
      record {
        lefts = refl;
        rights = refl;
        firsts = λ v lo hi. zeros 254 (v - suc n);
        lasts = λ v lo hi h. let z : ⊥ = omega arith in absurd z;
      }

  -- one turn more: the next node from above is noted in the left list, and the next from below in the right one
  pub lists-after : (d : ℕ) {k a b : ℕ} {left right left' right' : List ℕ} → d + suc k ≡ length tree
      → b ≡ get_or tree d 0 → a ≡ get_or tree k 0 → Sized n tree → ListsTo k left right
      → left' ≡ noted n b (d + 1) left → right' ≡ noted n a (k + 1) right → ListsTo (k + 1) left' right'
  unfolding first
  lists-after d {k} {a} {b} {left} {right} {left'} {right'} t q e S H l r =
      record {
        lefts = ap length l ∙ long-noted n b (d + 1) left ∙ H.lefts;
        rights = ap length r ∙ long-noted n a (k + 1) right ∙ H.rights;
        firsts = λ v lo hi. ap (λ xs. at_node n xs v) l ∙ firsts v lo hi (ℕ_discrete v b);
        lasts = λ v lo hi h. ap (λ xs. at_node n xs v) r ∙ lasts v lo hi h (ℕ_discrete v a);
      }
    where
      firsts : (v : ℕ) → n < v → v ≤ length tree → Dec (v ≡ b) → at_node n (noted n b (d + 1) left) v ≡ first (rest tree (k + 1) v)
      firsts v lo hi (yes p) =
          own n b (d + 1) left v lo p (omega (arith, H.lefts, S.nodes, S.most)) ∙ sym (ap first (rest_yes tree k d v t (p ∙ q)))
      firsts v lo hi (no p) =
          other n b (d + 1) left v lo p ∙ H.firsts v lo hi ∙ sym (ap first (rest_no tree k d v t (λ w. p (w ∙ sym q))))

      lasts : (v : ℕ) → n < v → v ≤ length tree → 1 ≤ length (met tree (k + 1) v) → Dec (v ≡ a)
          → at_node n (noted n a (k + 1) right) v ≡ last (met tree (k + 1) v)
      lasts v lo hi h (yes p) =
          own n a (k + 1) right v lo p (omega (arith, H.rights, S.nodes, S.most))
          ∙ sym (ap last (met_yes tree k v (p ∙ e)) ∙ last_snoc (met tree k v) (k + 1))
      lasts v lo hi h (no p) =
          let same : met tree (k + 1) v ≡ met tree k v = met_no tree k v (λ w. p (w ∙ sym e)) in
          other n a (k + 1) right v lo p ∙ H.lasts v lo hi (omega (arith, ap length same)) ∙ sym (ap last same)

  pub lists-all : {k : ℕ} {left right : List ℕ} → k ≡ length tree → Fillable n tree → ListsTo k left right → Filled n tree left right
  lists-all {k} {left} {right} q F H v lo hi =
      let m : met tree k v ≡ descendants tree v = ap (λ j. met tree j v) q in
      let none : length tree - length tree ≡ 0 = omega arith in
      let r : rest tree k v ≡ descendants tree v = ap (λ j. rest tree j v) q ∙ ap (λ j. having tree v (from (suc j) (length tree))) none in
      let t : length (descendants tree v) ≡ 2 = F.two v lo hi in
      two_are (descendants tree v) t
      ∙ ap₂ (λ x y. x ∷ y ∷ [])
      (sym (H.firsts v lo hi ∙ ap first r))
      (sym (H.lasts v lo hi (omega (arith, ap length m)) ∙ ap last m))
