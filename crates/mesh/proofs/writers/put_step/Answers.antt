-- `mesh::writers::put_step` meets its contract, by the byte. Assumes nothing.
use Rattle.mesh.proofs.WriteLaws.{ready_a, ready_b, step_a_lem, step_b_lem}
use Rattle.mesh.proofs.writers.put_step.Goals as goal

pub vertex-requires : goal.vertex-requires
vertex-requires c =
    (c.requires.lower, ready_a c.requires c.if-byte-eq0.true)

pub returns-then-byte-eq0 : goal.returns-then-byte-eq0
returns-then-byte-eq0 c =
    step_a_lem c.vertex-from.ensures c.vertex-across.ensures c.put.ensures c.if-byte-eq0.true
    c.vertex.ensures

pub vertex-requires-2 : goal.vertex-requires-2
vertex-requires-2 c =
    (c.requires.upper, ready_b c.requires c.if-byte-eq0.false)

pub returns : goal.returns
returns c =
    step_b_lem c.vertex-from.ensures c.vertex-across.ensures c.put-2.ensures c.if-byte-eq0.false
    c.vertex-2.ensures
