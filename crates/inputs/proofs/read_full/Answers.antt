-- What one read puts behind the front is what the input loses by it.
use Rattle.std.proofs.Common.{◌≡◌, ℕ, ◌+◌, ◌-◌, ◌≤◌, List, ◌++◌, rules, length, take, sym, ap, ◌∙◌, subst, length-take-le}
use Rattle.std.specs.Io.KnownBytes.{Consumes}
use Rattle.std.proofs.KnownBytes.{Consumes-trans}
use borrow.Rule.Slice.PartMut.{put_mid, post_of}
use Rattle.std.proofs.Math.Seq.{take-append-add}
use Rattle.std.proofs.lemmas.List.{take-append-le}
use Rattle.inputs.proofs.read_full.Goals as goal

-- the front with n bytes more
longer : (size room n : ℕ) (old buf : List ℕ) → size ≤ length old → n ≤ length buf
    → take size old ++ take n buf ≡ take (size + n) (put_mid size room old buf)
longer size room n old buf within fits =
    sym
    (ap (λ m. take (m + n) (put_mid size room old buf)) (sym (length-take-le size old within))
    ∙ take-append-add (take size old) (buf ++ post_of size room old) n
    ∙ ap (λ l. take size old ++ l) (take-append-le n buf (post_of size room old) fits))

pub loop-size-preserved : goal.loop-size-preserved
loop-size-preserved g c =
    let old = c.loop-size.text in
    record {
      within = search rules;
      bytes =
          subst (Consumes _ _) (longer c.loop-size.size (length old - c.loop-size.size) c.in_ok-n.n old c.read.new.buf c.loop-size.invariant.within
          c.in_ok-n.ensures.bound.0)
          (Consumes-trans _ _ _ _ _ c.loop-size.invariant.bytes c.in_ok-n.ensures.bytes.0);
    }
