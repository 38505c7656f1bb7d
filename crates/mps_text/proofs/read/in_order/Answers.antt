use Rattle.std.proofs.Common.{List, ap, ◌∙◌}
use Rattle.std.specs.Prelude.{not, filter}
use Rattle.flow_model.specs.declared.programs.Entry.{Entry}
use Rattle.mps_text.specs.Written.{is_zero}
use Rattle.mps_text.specs.Meaning.{in_row_order}
use Rattle.mps_text.proofs.Orders.{sorted_is}
use Rattle.mps_text.proofs.read.in_order.Goals as goal

pub returns : goal.returns
returns c =
    let filled = c.drop_zeros.ensures ∙ ap (λ (z : List Entry). filter (λ e. not (is_zero e.value)) z) c.into_list-list.ensures in
    sorted_is c.drop_zeros.new.list.items c.sort_by_row.new.list.items c.in_ok-sort_by_row.ensures.sorted c.in_ok-sort_by_row.ensures.stable ∙ ap in_row_order filled
