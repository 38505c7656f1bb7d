use Rattle.arc_program.proofs.StoreLemmas.{whole_file, cut_file}
use Rattle.arc_program.proofs.writing.write_file.Goals as goal

pub returns-in-Ok-put_text : goal.returns-in-Ok-put_text
returns-in-Ok-put_text g c = whole_file c.args.name.now c.args.text.now _ _ _ _ (g.met.H.Shelf.created_told c.args.shelf.now) c.in-Ok.ensures c.close.result c.close.ensures c.in-Ok-put_text.ensures

pub returns-in-Err-put_text : goal.returns-in-Err-put_text
returns-in-Err-put_text g c = cut_file c.args.name.now c.args.text.now _ _ _ _ (g.met.H.Shelf.created_told c.args.shelf.now) c.in-Ok.ensures c.close-in-Err-put_text.result c.close-in-Err-put_text.ensures c.in-Err-put_text.fault c.in-Err-put_text.ensures
