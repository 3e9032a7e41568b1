-- `cost` meets its contract: none past the end of the lane, else what the buffer has where the lane leads, and the scaled energy.
use mathlib.Core.Path.{sym, ◌∙◌}
use native.Mathlib.Omega.{arith}
use Rattle.value.specs.Narrow.{width}
use Rattle.buffers.proofs.Filling.{fewer_fit}
use Rattle.choose.proofs.Passing.{end_small, cost_past, found_low, cost_there, cost_fits}
use Rattle.choose.proofs.pass.Pass.cost.Goals as goal

pub overflow_add-sizes : goal.overflow_add-sizes
overflow_add-sizes c = rw c.args.self.now.sheets (omega (arith, end_small c.args.self.now.given c.requires.2 c.first-speed.ensures))

pub returns-then-sizes-speed : goal.returns-then-sizes-speed
returns-then-sizes-speed c =
    let pre = c.requires in
    let past = rw c.args.self.now.sheets at c.if-sizes-speed.true in
    sym (cost_past c.args.self.now.given pre.0.within pre.1 pre.2 c.first-speed.ensures past)

pub load-rest-requires : goal.load-rest-requires
load-rest-requires c =
    let given = c.args.self.now.given in
    let pre = c.requires in
    let inside = rw c.args.self.now.sheets at c.if-sizes-speed.false in
    fewer_fit width
    (found_low given pre.0.within pre.1 pre.2 c.first-speed.ensures inside pre.0.line c.max.ensures
    c.saturating_sub-on.ensures) given.room

pub plus_times-requires : goal.plus_times-requires
plus_times-requires c =
    let pre = c.requires in
    let inside = rw c.args.self.now.sheets at c.if-sizes-speed.false in
    cost_fits c.args.self.now.given pre.0.within pre.1 pre.2 c.first-speed.ensures inside pre.0.line c.max.ensures
    c.saturating_sub-on.ensures c.second.ensures c.load-rest.ensures

pub returns : goal.returns
returns c =
    let pre = c.requires in
    let inside = rw c.args.self.now.sheets at c.if-sizes-speed.false in
    c.plus_times.ensures ∙
    cost_there c.args.self.now.given pre.0.within pre.1 pre.2 c.first-speed.ensures inside pre.0.line c.max.ensures
    c.saturating_sub-on.ensures c.second.ensures c.load-rest.ensures
