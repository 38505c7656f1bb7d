use Rattle.mps_text.proofs.Texts.{columns_text}
use Rattle.mps_text.proofs.write.push_columns.Goals as goal

pub returns : goal.returns
returns c =
    columns_text c.args.program.now c.args.out.now.items c.push_bytes.new.out.items c.push_column_lines.new.out.items c.push_bytes-2.new.out.items
    c.in_ok-push_bytes.ensures.ok c.in_ok-push_column_lines.ensures c.in_ok-push_bytes-2.ensures.ok
