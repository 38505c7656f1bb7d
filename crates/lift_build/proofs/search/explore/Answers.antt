use Rattle.std.proofs.Common.{◌≡◌, List, Vec, Global, sym, ap, ◌∙◌, subst, append-nil, rules}
use Rattle.std.specs.Prelude.{All}
use Rattle.lift_build.specs.declared.found.Frame.{Frame}
use Rattle.lift_build.specs.declared.found.Search.{Search}
use Rattle.lift_build.specs.inner.Searches.{IsSearch, IsWaiting}
use Rattle.lift_build.proofs.Waiting.{all-front, all-last, waits-first, whole-end}
use Rattle.lift_build.proofs.search.explore.Goals.{in-Some+in-Ok, in-None+in-None-number_of+in_ok-put-in-None-number_of}
use Rattle.lift_build.proofs.search.explore.Goals as goal

pub look_at-requires : goal.look_at-requires
look_at-requires g c =
    let waits = IsWaiting c.args.pieces.now c.args.cap.now c.loop.found in
    (search rules, (search rules, (search rules, (search rules, (c.requires.small, (c.requires.pieces, (c.requires.rows, (c.loop.invariant.search, (all-front (IsWaiting c.args.pieces.now c.args.cap.now c.loop.found) c.loop.stack.items c.pop.new.self.items c.in-Some.frame c.in-Some.ensures.items c.loop.invariant.stack, all-last (IsWaiting c.args.pieces.now c.args.cap.now c.loop.found) c.loop.stack.items c.pop.new.self.items c.in-Some.frame c.in-Some.ensures.items c.loop.invariant.stack)))))))))

pub returns-in-Some-number_of-clause-whole : goal.returns-in-Some-number_of-clause-whole
returns-in-Some-number_of-clause-whole g c = whole-end c.args.pieces.now c.args.cap.now c.known.ensures.places c.args.room c.loop.found c.first_state-first.result c.in-Some-number_of.field-0 c.loop.invariant.search c.first_state-first.ensures.under c.in-Some-number_of.ensures

pub loop-preserved : goal.loop-preserved
loop-preserved g c =
    let pieces = c.args.pieces.now in
    let cap = c.args.cap.now in
    elim c.match-pop.branch [
      | in-Some+in-Ok w ↦ record {
        search = subst (λ (f : Search g.row.N). IsSearch pieces cap c.args.room f) (sym w.found-is) w.in-Ok.ensures.search;
        stack = subst (λ (f : Search g.row.N). All (IsWaiting pieces cap f) c.match-pop.stack.items) (sym w.found-is)
            (subst (λ (fs : List (Frame g.row.N)). All (IsWaiting pieces cap w.look_at.new.found) fs) (sym (ap (λ (v : Vec (Frame g.row.N) Global). v.items) w.stack-is)) w.in-Ok.ensures.stack);
      }
      | in-None+in-None-number_of+in_ok-put-in-None-number_of w ↦
          let rest : c.loop.stack.items ≡ c.pop.new.self.items = w.in-None.ensures.items ∙ append-nil c.pop.new.self.items in
          let all = subst (λ (fs : List (Frame g.row.N)). All (IsWaiting pieces cap c.loop.found) fs) rest c.loop.invariant.stack in
          record {
            search = subst (λ (f : Search g.row.N). IsSearch pieces cap c.args.room f) (sym w.found-is) c.loop.invariant.search;
            stack = subst (λ (f : Search g.row.N). All (IsWaiting pieces cap f) c.match-pop.stack.items) (sym w.found-is)
                (subst (λ (fs : List (Frame g.row.N)). All (IsWaiting pieces cap c.loop.found) fs) (sym (ap (λ (v : Vec (Frame g.row.N) Global). v.items) w.stack-is))
                (waits-first pieces cap c.loop.found c.pop.new.self.items w.put.new.stack.items c.first_state-first.result all c.first_state-first.ensures.under c.first_state-first.ensures.piece c.requires.some w.in_ok-put-in-None-number_of.ensures));
          }
    ]
