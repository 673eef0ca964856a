-- `meet_parent` meets its contract: a row reached, or an id without a row listed; laws of `Steps`.
use Rattle.walk.proofs.Steps.{meet-asks, meet-found, meet-nothing}
use Rattle.walk.proofs.climb.meet_parent.Goals as goal

pub add_row-met-requires : goal.add_row-met-requires
add_row-met-requires c =
    let a = meet-asks c.args.held.now.rows.now c.args.held.now.count c.args.t.met c.args.t.bare c.args.p c.args.w.now c.requires.0 c.requires.1 c.requires.2 c.find_near-found.result c.find_near-found.ensures c.in-Some.r c.in-Some.is in
    record { row = a.0; room = a.1 }

pub returns-in-Some : goal.returns-in-Some
returns-in-Some c =
    meet-found c.args.held.now.rows.now c.args.held.now.count c.args.t.met c.args.t.bare c.args.p c.args.w.now c.requires.0 c.requires.1 c.requires.2 c.find_near-found.result c.find_near-found.ensures _ _ _ c.in-Some.is (c.add_row-met.ensures.w_after, c.add_row-met.ensures.value)

pub returns-in-None : goal.returns-in-None
returns-in-None c =
    meet-nothing c.args.held.now.rows.now c.args.held.now.count c.args.t.met c.args.t.bare c.args.p c.args.w.now c.requires.0 c.requires.1 c.requires.2 c.find_near-found.result c.find_near-found.ensures c.in-None.is
