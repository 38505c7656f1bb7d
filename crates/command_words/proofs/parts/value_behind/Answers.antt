use Rattle.std.proofs.Common.{lit<, None}
use Rattle.std.proofs.lemmas.Str.Pattern.{split_once_first}
use Rattle.command_words.proofs.WordLemmas.{none_passes}
use Rattle.command_words.proofs.parts.value_behind.Goals as goal

pub returns-in-None : goal.returns-in-None
returns-in-None c = none_passes _ c.args.word.now (split_once_first 61 c.args.word.now None c.in-None.ensures.cases (lit< tt))
