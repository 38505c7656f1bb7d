use Rattle.main_compress.proofs.MainCuts.{cuts_keep_mains}
use Rattle.main_compress.proofs.laws.cuts_keep_main_graphs.Goals as goal

pub returns : goal.returns
returns c = cuts_keep_mains c.cuts_keep_images.ensures
