use Rattle.arc_compile.proofs.rows.one_type.Goals as goal

pub returns-in-Err-clause-done : goal.returns-in-Err-clause-done
returns-in-Err-clause-done g c = c.fault_at.ensures c.args.instance.now c.args.room c.requires.room c.in-Err.ensures.full
