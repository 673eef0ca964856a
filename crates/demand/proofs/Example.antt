-- Demand 3 is about something: 01's worked example, where segment 1 was split into 2 and 3, is accepted, and 3 is blocked by 1 until 1 is completed.
-- By running the definitions on its tables, with areas that have just the room. Assumes nothing.
use mathlib.Core.Path.{◌≡◌, refl}
use mathlib.Core.List.{[], ◌∷◌, ◌++◌}
use lib.ListN.{replicate}
use Rattle.lists.specs.Sort.{le3}
use Rattle.lists.specs.Sets.{add, add_all, keep, total}
use Rattle.answers.specs.Verdict as E
use Rattle.types.specs.declared.limits.DagLimits.{DagLimits}
use Rattle.types.specs.declared.records.OrderingMode.TheVariants.{Strict, BrokerManaged}
use Rattle.rules.specs.Tables.{held_rows, held_edges}
use Rattle.rules.specs.Shape.{bad_head, bad_place, bad_held_row, wrong_counts, bad_table, bad_layout, bad_held_rows, bad_held}
use Rattle.rules.specs.Room.{no_room_to_judge, no_room_to_order}
use Rattle.rules.specs.Rows.{size_rule, places_from, placements_rule, range_rule, state_rule, descriptor_rule, active_rule, sealed_rule, state_lifecycle, lifecycle_rule, items_from, list_rule, head_rule, lists_rule, row_rule, edge_count_rule, counted_rule, rows_from, rows_rule, dangling_from, dangling_rule}
use Rattle.rules.specs.Edges.{epoch_rule, parent_found, parent_known, parent_rule, child_found, child_known, child_rule, parents_rule, children_rule, links_rule, links_from, edges_rule}
use Rattle.rules.specs.Order.{first_ready, taken, depth_of, touched, visit, order_from, order_of, ordered_rule, order_rule}
use Rattle.rules.specs.Tiling.{misfit, walk_end, walk_from, walked, tiles, ranges_of, tiling_rule, all_single, one_merged, split_rule, fork_rule, forks_from, join_rule, joins_from, transitions_rule, active_of, walked_rule, coverage_rule}
use Rattle.rules.specs.Layout.{graph_rule, layout_rule}
use Rattle.rules.specs.Judge.{Tables, Areas, judgement, filled}
use Rattle.rules.specs.Ancestors.{parents_of, created_of, references, grow, close, ancestors, family, references_read}
use Rattle.rules.specs.Ordering.{Lent, pruned, remote, incomplete, ordering, query_rule, query, ordering_of}
use Rattle.demand.specs.Demand.{HeldTables, held_in, Left, by_judge, Room, asked, MayRead, BlockedBy, named_in, remote_in, count_in, Ends}
use Rattle.demand.proofs.DemandThree.{demand-three}
use Rattle.answers.specs.Answer.{Accepted}

abbrev pub usual : DagLimits
usual = record { segments = 4096; edges = 16384; depth = 256; size = 1048576 }

-- 1 Sealed at epoch 3 with children 2 and 3, which are Active since then
abbrev pub layout : Tables
layout =
    record {
      rows = (1 ∷ 0 ∷ 65535 ∷ 2 ∷ 0 ∷ 1 ∷ 3 ∷ 0 ∷ 0 ∷ 0 ∷ 2 ∷ [])
          ++ ((2 ∷ 0 ∷ 32767 ∷ 1 ∷ 3 ∷ 0 ∷ 0 ∷ 0 ∷ 0 ∷ 1 ∷ 0 ∷ []) ++ (3 ∷ 32768 ∷ 65535 ∷ 1 ∷ 3 ∷ 0 ∷ 0 ∷ 0 ∷ 0 ∷ 1 ∷ 0 ∷ []));
      edges = 2 ∷ 3 ∷ 1 ∷ 1 ∷ [];
      places = [];
    }

abbrev pub areas : Areas
areas = record { held = replicate 45 88; links = replicate 4 88; order = replicate 3 88 }

abbrev pub lent : Lent
lent = record { work = 224; first = replicate 5 88; second = replicate 5 88 }

abbrev pub example : HeldTables
example = held_in (filled usual layout areas) 3 4

accepted : judgement 3 150 usual layout 224 areas ≡ Accepted
unfolding le3 bad_head bad_place wrong_counts bad_table bad_layout no_room_to_judge size_rule places_from placements_rule range_rule state_rule descriptor_rule active_rule sealed_rule state_lifecycle lifecycle_rule items_from list_rule head_rule lists_rule row_rule edge_count_rule counted_rule rows_from rows_rule dangling_from dangling_rule epoch_rule parent_found parent_known parent_rule child_found child_known child_rule parents_rule children_rule links_rule links_from edges_rule first_ready taken depth_of touched visit order_from order_of ordered_rule order_rule misfit walk_end walk_from walked tiles ranges_of tiling_rule all_single one_merged split_rule fork_rule forks_from join_rule joins_from transitions_rule active_of walked_rule coverage_rule graph_rule layout_rule judgement
accepted = refl

pub left : Left example
left = by_judge 3 150 usual layout 224 areas accepted

room : Room example lent
unfolding no_room_to_order
room = refl

-- 01's `O 3 S 1 -`, `O 3 S 1 1` and `O 3 B - -`; and what names 1 as incomplete says that 1 may be read
pub answers : BlockedBy example Strict (1 ∷ []) 3 [] lent 1 0
    × (named_in example Strict (1 ∷ []) 3 [] lent 1 ≡ 1 ∷ [])
    × MayRead example Strict (1 ∷ []) 1 [] lent
    × ((ordering_of (asked example Strict (1 ∷ []) 3 (1 ∷ []) lent)).eligibility ≡ E.Eligible)
    × ((ordering_of (asked example BrokerManaged [] 3 [] lent)).eligibility ≡ E.BrokerManaged 1)
unfolding keep add add_all total held_rows held_edges bad_head bad_held_row wrong_counts bad_held_rows bad_held no_room_to_order filled parents_of created_of references grow close ancestors family references_read pruned remote incomplete ordering query_rule query
answers = (refl, refl, refl, refl, refl)

-- so there is a reading to speak of, and it proceeds
pub proceeds : Ends example Strict (1 ∷ []) 3 [] (named_in example Strict (1 ∷ []) 3 [] lent 1) (remote_in example Strict (1 ∷ []) 3 [] lent 0) (count_in example Strict (1 ∷ []) 3 [] lent) 1
proceeds = (demand-three example left).0 Strict (1 ∷ []) 3 [] lent room 1 0 answers.0
