use Rattle.final_compress.proofs.FinalCuts.{cuts_keep_finals}
use Rattle.final_compress.proofs.laws.cuts_keep_final_graphs.Goals as goal

pub returns : goal.returns
returns c = cuts_keep_finals c.cuts_keep_images.ensures
