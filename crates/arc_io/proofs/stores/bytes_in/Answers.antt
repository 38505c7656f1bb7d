use Rattle.std.proofs.Common.{sym, ap, ◌∙◌}
use Rattle.arc_io.specs.Entries.{Entry}
use Rattle.arc_io.proofs.EntryLemmas.{bytes_at-read}
use Rattle.arc_io.proofs.stores.bytes_in.Goals as goal

pub returns : goal.returns
returns c =
    let e = c.index-entries-place.result in
    c.as_slice.ensures.value ∙ ap (λ (d : Entry). d.bytes) c.entry.view_is ∙ sym (bytes_at-read c.args.entries.now c.args.place e c.requires c.index-entries-place.is)
