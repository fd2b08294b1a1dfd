-- `register::judging::extent_of` meets its contract: nothing wraps, since no count is over 65,535. Assumes nothing.
use native.Mathlib.Omega.{arith}
use Rattle.register.specs.Answering.{contents_end}
use Rattle.register.proofs.ExtentLaws.{layered_many, extended}
use Rattle.register.proofs.judging.extent_of.Goals as goal

pub overflow_sub-many : goal.overflow_sub-many
overflow_sub-many c = omega (arith, layered_many c.requires, c.requires.layers.two)

pub overflow_add-points : goal.overflow_add-points
overflow_add-points c = let e = extended c.requires c.type_inv.contents c.layer_at-low.ensures c.layer_at-top.ensures in omega arith

pub overflow_mul-from-2 : goal.overflow_mul-from-2
overflow_mul-from-2 c = let e = extended c.requires c.type_inv.contents c.layer_at-low.ensures c.layer_at-top.ensures in omega arith

pub overflow_add-from-2 : goal.overflow_add-from-2
overflow_add-from-2 c = let e = extended c.requires c.type_inv.contents c.layer_at-low.ensures c.layer_at-top.ensures in omega arith

pub overflow_mul-result : goal.overflow_mul-result
overflow_mul-result c = let e = extended c.requires c.type_inv.contents c.layer_at-low.ensures c.layer_at-top.ensures in omega arith

pub overflow_sub-result : goal.overflow_sub-result
overflow_sub-result c = let e = extended c.requires c.type_inv.contents c.layer_at-low.ensures c.layer_at-top.ensures in omega arith

pub overflow_sub-result-2 : goal.overflow_sub-result-2
overflow_sub-result-2 c = let e = extended c.requires c.type_inv.contents c.layer_at-low.ensures c.layer_at-top.ensures in omega arith

pub overflow_add-result : goal.overflow_add-result
overflow_add-result c = let e = extended c.requires c.type_inv.contents c.layer_at-low.ensures c.layer_at-top.ensures in omega arith

pub returns : goal.returns
unfolding contents_end
returns c =
    let e = extended c.requires c.type_inv.contents c.layer_at-low.ensures c.layer_at-top.ensures in
    record { points = e.ends; from = omega arith; end = omega arith; small = omega arith }
