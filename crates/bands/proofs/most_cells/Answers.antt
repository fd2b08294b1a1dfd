-- `most_cells` meets its contract: above the topmost band the most of those passed is the most of all. Assumes nothing.
use Rattle.std.proofs.Common.{◌+◌, ◌*◌, refl, sym, ap, ap₂, ◌∙◌, max, arith, add-one}
use Rattle.stack.specs.declared.Band.{Band}
use Rattle.stack.proofs.StackLaws.{lower_count, upper_count}
use Rattle.bands.specs.Filling.{cells_to}
use Rattle.bands.proofs.CellLaws.{cells_all}
use Rattle.bands.proofs.most_cells.Goals as goal

pub loop-k-init : goal.loop-k-init
unfolding cells_to
loop-k-init c = refl

pub cells_of-requires : goal.cells_of-requires
cells_of-requires c =
    let es = c.args.layers.now in
    let k = c.loop-k.k in
    let band = c.band_at.ensures in (
      omega (arith, lower_count es k band, c.requires.many k (omega arith)),
      omega (arith, upper_count es k band, c.requires.many (k + 1) (omega arith)),
    )

pub loop-k-preserved : goal.loop-k-preserved
unfolding cells_to
loop-k-preserved c =
    let es = c.args.layers.now in
    let k = c.loop-k.k in
    let cells = c.cells_of.ensures ∙ ap (λ (b : Band). (b.lower.count + 1) * (b.upper.count + 1)) c.band_at.ensures in
    c.max-most.ensures ∙ ap₂ max c.loop-k.invariant cells ∙ sym (ap (cells_to es) (add-one k))

pub returns : goal.returns
returns c = c.loop-k.invariant ∙ cells_all c.args.layers.now c.loop-k.k (omega arith)
