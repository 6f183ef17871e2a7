-- `inputs::read_in` meets its contract: a turn puts what it reads behind what was read. Assumes nothing.
use Rattle.std.proofs.Common.{◌≡◌, drop, ℕ, ◌+◌, ◌-◌, ◌≤◌, rules, arith, List, ◌++◌, length, take, sym, ap, ◌∙◌, subst, le_refl, drop_at, length-take-le}
use Rattle.std.proofs.lemmas.Slice.{take-put_mid_below}
use Rattle.std.proofs.Math.Seq.{take-add, take-append-le}
use Rattle.std.specs.Io.KnownBytes.{Consumes}
use Rattle.std.proofs.KnownBytes.{Consumes-trans}
use borrow.Rule.Slice.PartMut.{put_mid, post_of}
use Rattle.inputs.proofs.read_in.Goals as goal

-- the front that was read, and behind it what is read into the rest
read_behind : (a n : ℕ) (xs ys : List ℕ) → a ≤ length xs → n ≤ length ys → take (a + n) (put_mid a (length xs - a) xs ys) ≡ take a xs ++ take n ys
read_behind a n xs ys within fits =
    take-add a n (put_mid a (length xs - a) xs ys)
    ∙ ap (λ l. l ++ take n (drop a (put_mid a (length xs - a) xs ys))) (take-put_mid_below _ _ _ _ _ (le_refl _) within)
    ∙ ap (λ l. take a xs ++ take n l) (drop_at (take a xs) (ys ++ post_of a (length xs - a) xs) a (length-take-le a xs within))
    ∙ ap (λ l. take a xs ++ l) (take-append-le n ys (post_of a (length xs - a) xs) fits)

pub loop-done-preserved : goal.loop-done-preserved
loop-done-preserved g c =
    let e = read_behind c.loop-done.done c.in_ok-n.n c.loop-done.input c.read.new.buf (omega arith) c.in_ok-n.ensures.bound.0 in
    record {
      within = search rules;
      room = search rules;
      octets = subst (Consumes _ _) (sym e) (Consumes-trans _ _ _ _ _ c.loop-done.invariant.octets c.in_ok-n.ensures.bytes.0);
    }
