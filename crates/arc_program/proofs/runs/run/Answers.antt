use Rattle.std.proofs.Common.{map, string_bytes}
use Rattle.command_words.specs.Requests.{words_of}
use Rattle.arc_program.proofs.ExactLemmas.{is_exact}
use Rattle.arc_program.proofs.Decided.{headline}
use Rattle.arc_program.proofs.runs.run.Goals as goal

pub returns-clause-exact : goal.returns-clause-exact
returns-clause-exact g c = is_exact c.sizes_are_one.ensures c.joint_sizes_are_one.ensures c.compiled_graphs_are_one.ensures c.fit_is_not_rejected.ensures (words_of (map string_bytes c.args.words.now)) _ _ _ _ c.ended-finished.ensures.ends

pub returns-clause-decided : goal.returns-clause-decided
returns-clause-decided g c = headline (words_of (map string_bytes c.args.words.now)) _ _ _ _ c.ended-finished.ensures.ends
