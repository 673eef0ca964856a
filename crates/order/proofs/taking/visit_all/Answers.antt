-- `order::taking::visit_all` meets its contract: the children still to come give the whole answer.
use mathlib.Core.Path.{◌∙◌, ◌≡◌}
use mathlib.Core.List.{List}
use Prim.Native.Nat.{ℕ, ◌*◌, ◌<◌, ◌≤◌}
use native.Mathlib.Omega.{arith}
use lib.ListN.{drop, get_or}
use Rattle.order.proofs.AreaStep.{deep-at, depth-read}
use Rattle.order.proofs.RunLaws.{turn-next, turn-none}
use Rattle.order.proofs.StoreLaws.{kept_at}
use Rattle.order.proofs.taking.visit_all.Goals as goal

-- the child that was read is the one that stood there at first
child : (n : ℕ) (w₀ w : List ℕ) (from j r : ℕ) → 4 * n ≤ from → from ≤ j → drop (4 * n) w ≡ drop (4 * n) w₀ → r ≡ get_or w j 0 → r ≡ get_or w₀ j 0
child n w₀ w from j r h f k e = e ∙ kept_at (4 * n) w w₀ j k (omega arith)

node : (n : ℕ) (w₀ w : List ℕ) (from to j r : ℕ) → 4 * n ≤ from → from ≤ j → drop (4 * n) w ≡ drop (4 * n) w₀ → r ≡ get_or w j 0 → ((k : ℕ) → from ≤ k → k < to → get_or w₀ k 0 < n) → j < to → r < n
node n w₀ w from to j r h f k e all t = rw (child n w₀ w from j r h f k e) (all j f t)

pub overflow_add-n : goal.overflow_add-n
overflow_add-n c =
    omega (
      arith,
      node c.args.n _ _ _ _ _ _ c.requires.behind_slots c.loop-j.invariant.0 c.loop-j.invariant.4 c.index-c.ensures c.requires.nodes
          c.loop-j-test.true,
    )

pub offset_bounds-w-n : goal.offset_bounds-w-n
offset_bounds-w-n c =
    omega (
      arith,
      node c.args.n _ _ _ _ _ _ c.requires.behind_slots c.loop-j.invariant.0 c.loop-j.invariant.4 c.index-c.ensures c.requires.nodes
          c.loop-j-test.true,
    )

pub bounds-w-n : goal.bounds-w-n
bounds-w-n c =
    omega (
      arith,
      node c.args.n _ _ _ _ _ _ c.requires.behind_slots c.loop-j.invariant.0 c.loop-j.invariant.4 c.index-c.ensures c.requires.nodes
          c.loop-j-test.true,
    )

pub returns-then-lim-e : goal.returns-then-lim-e
returns-then-lim-e c = record {
  visited = c.loop-j.invariant.5
      ∙ deep-at c.args.n _ _ _ _ _ c.loop-j.w c.loop-j-test.true c.requires.in_area _ _
      (child c.args.n _ _ _ _ _ c.requires.behind_slots c.loop-j.invariant.0 c.loop-j.invariant.4 c.index-c.ensures)
      (depth-read c.args.n _ _ _ c.loop-j.w
      (node c.args.n _ _ _ _ _ _ c.requires.behind_slots c.loop-j.invariant.0 c.loop-j.invariant.4 c.index-c.ensures c.requires.nodes
      c.loop-j-test.true)
      c.max-e.ensures)
      c.if-lim-e.true;
  tree = c.loop-j.invariant.3;
  rest_stays = c.loop-j.invariant.4;
}

pub reach-requires : goal.reach-requires
reach-requires c = record {
  node = node c.args.n _ _ _ _ _ _ c.requires.behind_slots c.loop-j.invariant.0 c.loop-j.invariant.4 c.index-c.ensures c.requires.nodes
      c.loop-j-test.true;
  slots_in_area = omega arith;
  tree_before = c.loop-j.invariant.3;
}

pub loop-j-preserved : goal.loop-j-preserved
loop-j-preserved c =
    let t : c.loop-j.j < c.args.to = c.loop-j-test.true in (
      omega arith,
      omega arith,
      c.reach.auto.w ∙ c.loop-j.invariant.2,
      c.reach.ensures.tree,
      c.reach.ensures.rest_stays ∙ c.loop-j.invariant.4,
      c.loop-j.invariant.5
          ∙ turn-next c.args.d c.args.lim c.loop-j.j c.args.to c.args.w.now t c.requires.in_area _ _ c.index-c.result _
          (child c.args.n _ _ _ _ _ c.requires.behind_slots c.loop-j.invariant.0 c.loop-j.invariant.4 c.index-c.ensures)
          (depth-read c.args.n _ _ _ c.loop-j.w
          (node c.args.n _ _ _ _ _ _ c.requires.behind_slots c.loop-j.invariant.0 c.loop-j.invariant.4 c.index-c.ensures c.requires.nodes
          c.loop-j-test.true)
          c.max-e.ensures)
          c.if-lim-e.false c.reach.ensures.touched,
    )

pub returns : goal.returns
returns c =
    let e : c.loop-j.j ≡ c.args.to = omega arith in
    record { visited = c.loop-j.invariant.5 ∙ turn-none _ _ _ _ _ _ e; tree = c.loop-j.invariant.3; rest_stays = c.loop-j.invariant.4 }
