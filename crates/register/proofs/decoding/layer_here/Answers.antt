-- `register::decoding::layer_here` meets its contract. Assumes nothing.
use mathlib.Core.Path.{refl, sym, ap, ◌∙◌}
use lib.ListN.{drop}
use lib.Seq.{drop-drop}
use mir.Syntax.{w32}
use Rattle.whole.proofs.Machine.{returned}
use Rattle.register.specs.Decoding.{two_of, layer_here, place_of}
use Rattle.register.proofs.ChainLaws.{same_layer}
use Rattle.register.proofs.decoding.layer_here.Goals as goal

pub returns : goal.returns
returns c =
    let a = c.args in
    let p = place_of a.k a.first in
    let contents = a.contents.now in (
      same_layer (layer_here a.first (drop p contents)) (returned w32 c.number_at.ensures c.number_at.type_inv) refl
          (c.two_at.ensures.0 ∙ ap two_of (sym (drop-drop 4 p contents))),
      c.two_at.ensures.1,
    )
