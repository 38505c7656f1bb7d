use Rattle.std.proofs.Common.{ℕ, List, Err, subst, sym}
use Rattle.arc_io.specs.declared.IoFault.TheVariants as io
use Rattle.command_words.specs.Requests.{request_of, certificate_of}
use Rattle.arc_program.specs.declared.refusals.Refusal.{Refusal}
use Rattle.arc_program.specs.World.{ShelfSeen, SinkSeen, shelf_seen, sink_seen}
use Rattle.arc_program.specs.Printing.{PutsText, CutsOff}
use Rattle.arc_program.specs.inner.Performed.{CarriesOut}
use Rattle.arc_program.proofs.TextLemmas.{keeps_on, writes_nothing, not_stored, is_printed, is_cut, is_starved}
use Rattle.arc_program.proofs.performing.carry_out.Goals as goal

pub returns-in-Err-clause-done : goal.returns-in-Err-clause-done
returns-in-Err-clause-done g c = c.input_refusal.ensures _ _ _ c.in-Err.ensures.input

pub returns-in-Err-work_on-clause-done : goal.returns-in-Err-work_on-clause-done
returns-in-Err-work_on-clause-done g c = c.work_refusal.ensures _ _ _ _ c.in-Ok.instance c.in-Ok.ensures.input.0 c.in-Ok.ensures.input.1 c.in-Ok.ensures.writes c.in-Err-work_on.ensures.works

pub returns-in-Err-work_on-clause-writes : goal.returns-in-Err-work_on-clause-writes
returns-in-Err-work_on-clause-writes g c = writes_nothing (certificate_of (request_of c.args.command)) _ _ (keeps_on _ _ _ c.in-Ok.ensures.writes c.in-Err-work_on.ensures.writes)

pub returns-in-Err-store-clause-done : goal.returns-in-Err-store-clause-done
returns-in-Err-store-clause-done g c =
    let end : ShelfSeen = shelf_seen g.H.Shelf c.store.new.shelf in
    let out : SinkSeen = sink_seen g.K.Sink c.args.out.now in
    subst (λ (refusal : Refusal). CarriesOut (request_of c.args.command) (shelf_seen g.H.Shelf c.args.shelf.now) end out out (Err refusal)) (sym c.store_refusal.ensures)
    (not_stored (request_of c.args.command) _ _ _ c.in-Ok.ensures.input.1 c.in-Ok.ensures.writes c.in-Ok.instance c.in-Ok.ensures.input.0 c.in-Ok-work_on.report c.in-Ok-work_on.ensures.works c.in-Ok-work_on.ensures.writes end _ c.into_certificate.ensures c.in-Err-store.fault out c.in-Err-store.ensures.stores)

pub returns-in-Ok-put_lines-clause-done : goal.returns-in-Ok-put_lines-clause-done
returns-in-Ok-put_lines-clause-done g c =
    let end : ShelfSeen = shelf_seen g.H.Shelf c.store.new.shelf in
    let old : SinkSeen = sink_seen g.K.Sink c.args.out.now in
    let new : SinkSeen = sink_seen g.K.Sink c.put_lines.new.out in
    is_printed (request_of c.args.command) _ _ _ c.in-Ok.ensures.input.1 c.in-Ok.ensures.writes c.in-Ok.instance c.in-Ok.ensures.input.0 c.in-Ok-work_on.report c.in-Ok-work_on.ensures.works c.in-Ok-work_on.ensures.writes end _ c.into_certificate.ensures c.in-Ok-store.ensures.stores old new
    (subst (λ (text : List ℕ). PutsText text old new) c.as_slice.ensures c.in-Ok-put_lines.ensures)

pub returns-in-Err-Failed-clause-done : goal.returns-in-Err-Failed-clause-done
returns-in-Err-Failed-clause-done g c =
    let end : ShelfSeen = shelf_seen g.H.Shelf c.store.new.shelf in
    let old : SinkSeen = sink_seen g.K.Sink c.args.out.now in
    let new : SinkSeen = sink_seen g.K.Sink c.put_lines.new.out in
    let cut : CutsOff io.Failed c.as_slice.result.now old new = rw c.in-Err-Failed.field-0-is at c.in-Err-Failed.ensures in
    is_cut (request_of c.args.command) _ _ _ c.in-Ok.ensures.input.1 c.in-Ok.ensures.writes c.in-Ok.instance c.in-Ok.ensures.input.0 c.in-Ok-work_on.report c.in-Ok-work_on.ensures.works c.in-Ok-work_on.ensures.writes end _ c.into_certificate.ensures c.in-Ok-store.ensures.stores old new io.Failed
    (subst (λ (text : List ℕ). CutsOff io.Failed text old new) c.as_slice.ensures cut)

pub returns-clause-done : goal.returns-clause-done
returns-clause-done g c =
    let end : ShelfSeen = shelf_seen g.H.Shelf c.store.new.shelf in
    let old : SinkSeen = sink_seen g.K.Sink c.args.out.now in
    let new : SinkSeen = sink_seen g.K.Sink c.put_lines.new.out in
    let cut : CutsOff io.Memory c.as_slice.result.now old new = rw c.in-Err-Memory.field-0-is at c.in-Err-Memory.ensures in
    is_starved (request_of c.args.command) _ _ _ c.in-Ok.ensures.input.1 c.in-Ok.ensures.writes c.in-Ok.instance c.in-Ok.ensures.input.0 c.in-Ok-work_on.report c.in-Ok-work_on.ensures.works c.in-Ok-work_on.ensures.writes end _ c.into_certificate.ensures c.in-Ok-store.ensures.stores old new
    (subst (λ (text : List ℕ). CutsOff io.Memory text old new) c.as_slice.ensures cut)
