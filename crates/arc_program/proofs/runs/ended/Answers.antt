use Rattle.std.proofs.Common.{map, string_bytes, inl, inr, refl}
use Rattle.command_words.specs.Requests.{words_of}
use Rattle.arc_program.proofs.RunLemmas.{ends_reported, ends_refused, is_reported}
use Rattle.arc_program.proofs.runs.ended.Goals as goal

pub returns-in-Ok-clause-ends : goal.returns-in-Ok-clause-ends
returns-in-Ok-clause-ends g c = ends_reported (words_of (map string_bytes c.args.words.now)) _ _ _ _ _ c.in-Ok.finished c.in-Ok.ensures.done

pub returns-in-Ok-clause-unmade : goal.returns-in-Ok-clause-unmade
returns-in-Ok-clause-unmade g c = inl (is_reported (words_of (map string_bytes c.args.words.now)) _ _ _ _ c.in-Ok.finished c.in-Ok.ensures.done)

pub returns-in-Err-clause-ends : goal.returns-in-Err-clause-ends
returns-in-Err-clause-ends g c = ends_refused (words_of (map string_bytes c.args.words.now)) _ _ _ _ _ _ c.in-Err.refusal c.refuse.result c.in-Err.ensures.done c.refuse.ensures.unwritten c.refuse.ensures.said

pub returns-in-Err-clause-unmade : goal.returns-in-Err-clause-unmade
returns-in-Err-clause-unmade g c = inr refl
