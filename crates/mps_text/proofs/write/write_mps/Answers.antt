use Rattle.mps_text.proofs.Texts.{whole_text}
use Rattle.mps_text.proofs.write.write_mps.Goals as goal

pub returns : goal.returns
returns c =
    whole_text c.args.program.now c.new-out.result.items c.push_bytes.new.out.items c.push_rows.new.out.items c.push_columns.new.out.items c.push_rights.new.out.items c.push_bounds.new.out.items c.push_bytes-2.new.out.items
    c.new-out.ensures.items c.in_ok-push_bytes.ensures.ok c.in_ok-push_rows.ensures c.in_ok-push_columns.ensures c.in_ok-push_rights.ensures c.in_ok-push_bounds.ensures c.in_ok-push_bytes-2.ensures.ok
