-- One value more.
use Rattle.std.proofs.Common.{◌+◌, ◌≤◌, get_or, refl, arith}
use Rattle.arc_num.specs.declared.TheConstants.{MAX_PRICE}
use Rattle.cert_text.specs.declared.lines.ArcPart.{ArcPart}
use Rattle.cert_text.specs.Lines.{IsBetween}
use Rattle.column_master.proofs.MoreListed.{listed_more}
use Rattle.column_master.proofs.MoreParts.{holds_more, holds_nothing_more}
use Rattle.column_master.proofs.flows.list_part.Goals as goal

pub returns-then-value-eq0-clause-holds : goal.returns-then-value-eq0-clause-holds
returns-then-value-eq0-clause-holds c = holds_nothing_more c.args.index c.args.listed.now c.args.listed.now c.args.values.now refl c.requires.before.among c.if-value-eq0.true c.requires.held

pub returns-clause-listed : goal.returns-clause-listed
returns-clause-listed c =
    let next : ArcPart = record { arc = c.args.index + 1; value = get_or c.args.values.now c.args.index 0 } in
    let small : get_or c.args.values.now c.args.index 0 ≤ MAX_PRICE = c.requires.small c.args.index 0 c.requires.within in
    let some = c.if-value-eq0.false in
    listed_more (λ (x : ArcPart). x.arc) (λ x. IsBetween 1 MAX_PRICE x.value) c.args.index c.args.listed.now c.push.new.self next refl (omega (arith, some), small) c.in_ok-push.ensures.ok c.requires.before

pub returns-clause-holds : goal.returns-clause-holds
returns-clause-holds c =
    let next : ArcPart = record { arc = c.args.index + 1; value = get_or c.args.values.now c.args.index 0 } in
    holds_more c.args.index c.args.listed.now c.push.new.self next c.args.values.now c.in_ok-push.ensures.ok c.requires.before.among refl refl c.requires.held
