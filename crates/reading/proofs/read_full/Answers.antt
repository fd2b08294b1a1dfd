-- `reading::read_full` meets its contract: what a turn reads stands behind what was read. Assumes nothing.
use Rattle.std.proofs.Common.{◌≡◌, ℕ, ◌+◌, ◌-◌, ◌≤◌, List, ◌++◌, rules, length, take, drop, sym, ap, ◌∙◌, subst, le_refl, drop_at, length-take-le}
use Rattle.std.proofs.lemmas.Slice.{take-put_mid_below}
use Rattle.std.specs.Io.KnownBytes.{Consumes}
use Rattle.std.proofs.KnownBytes.{Consumes-trans}
use borrow.Rule.Slice.PartMut.{put_mid, post_of}
use lib.Seq.{take-add, take-append-le}
use Rattle.reading.proofs.read_full.Goals as goal

-- n bytes at the front of a part that was lent from place a on, and came back as ys
take_more : (a k n : ℕ) (xs ys : List ℕ) → a ≤ length xs → n ≤ length ys → take a xs ++ take n ys ≡ take (a + n) (put_mid a k xs ys)
take_more a k n xs ys within fits =
    let l = put_mid a k xs ys in
    let front : take a l ≡ take a xs = take-put_mid_below _ _ _ _ _ (le_refl _) within in
    let behind = drop_at (take a xs) (ys ++ post_of a k xs) a (length-take-le a xs within) in
    sym (take-add a n l ∙ ap (λ x. x ++ take n (drop a l)) front
    ∙ ap (λ x. take a xs ++ x) (ap (take n) behind ∙ take-append-le n ys (post_of a k xs) fits))

pub loop-done-preserved : goal.loop-done-preserved
loop-done-preserved g c =
    let from = c.loop-done.done in (
      search rules,
      search rules,
      subst (Consumes _ _)
          (take_more from (length c.loop-done.list - from) c.in-Ok.count c.loop-done.list c.read.new.buf c.loop-done.invariant.1
          c.in-Ok.ensures.bound.0)
          (Consumes-trans _ _ _ _ _ c.loop-done.invariant.2 c.in-Ok.ensures.bytes.0),
    )
