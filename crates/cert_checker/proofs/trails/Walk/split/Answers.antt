-- After the split the way leads to the low part, or all is as before.
use Rattle.std.proofs.Common.{◌≡◌, ◌∷◌, ◌∙◌, Bool, List, true, false, reverse, sym, ap, subst, ⊎_elim}
use Rattle.std.proofs.lemmas.Result.{on_ok_weaker}
use Rattle.flow_graph.specs.Chords.{IsGenuine, low_part, high_part}
use Rattle.cert_laws.specs.Rules.{Box, opened_by}
use Rattle.cert_text.specs.declared.lines.TreeLine.TheVariants.{Split}
use Rattle.cert_checker.specs.Trails.{LeadsTo, open_boxes, root_of, waiting}
use Rattle.cert_checker.specs.inner.Turns.{IsLowBranch}
use Rattle.cert_checker.specs.declared.trails.Branch.{Branch}
use Rattle.cert_checker.proofs.WalkSteps.{down_leads, down_root, down_boxes, is_open, root_is, boxes_are, first_is, either}
use Rattle.cert_checker.proofs.trails.Walk.split.Goals as goal

pub invariant_of-self : goal.invariant_of-self
invariant_of-self c =
    let box : Box = c.self.inside.first in
    let before : List Branch = reverse c.self.inside.trail.items in
    let opened : c.self.inside.is_open ≡ true = is_open c.self.inside.is_open box before c.args.self.now c.self.view_is c.requires.some in
    let genuine : IsGenuine box c.args.arc c.args.cut = subst (λ (x : Box). IsGenuine x c.args.arc c.args.cut) (first_is c.self.inside.is_open box before c.args.self.now c.self.view_is c.requires.some) c.requires.genuine in
    let leads : LeadsTo c.go_down.new.first (reverse c.go_down.new.trail.items) = ⊎_elim
    (λ is. down_leads box c.args.arc c.args.cut genuine c.go_down.new.first before (reverse c.go_down.new.trail.items) is c.self.invariant.0)
    (λ same. subst (λ (x : Box). LeadsTo x (reverse c.go_down.new.trail.items)) (sym same.0) (subst (λ (t : List Branch). LeadsTo box (reverse t)) (sym same.1) c.self.invariant.0))
    (either c.go_down.result c.go_down.ensures.ok c.go_down.ensures.err) in
    (leads, λ shut. absurd (let bad : false ≡ true = sym shut ∙ opened in cc))

pub returns-clause-root : goal.returns-clause-root
returns-clause-root c =
    let box : Box = c.self.inside.first in
    let before : List Branch = reverse c.self.inside.trail.items in
    let genuine : IsGenuine box c.args.arc c.args.cut = subst (λ (x : Box). IsGenuine x c.args.arc c.args.cut) (first_is c.self.inside.is_open box before c.args.self.now c.self.view_is c.requires.some) c.requires.genuine in
    let same_root : root_of c.go_down.new.first (reverse c.go_down.new.trail.items) ≡ root_of box before = ⊎_elim
    (λ is. down_root box c.args.arc c.args.cut genuine c.go_down.new.first before (reverse c.go_down.new.trail.items) is)
    (λ same. ap (λ (x : Box). root_of x (reverse c.go_down.new.trail.items)) same.0 ∙ ap (λ (t : List Branch). root_of box (reverse t)) same.1)
    (either c.go_down.result c.go_down.ensures.ok c.go_down.ensures.err) in
    same_root ∙ root_is c.self.inside.is_open box before c.args.self.now c.self.view_is c.requires.some

pub returns-clause-ok : goal.returns-clause-ok
returns-clause-ok c =
    let box : Box = c.self.inside.first in
    let before : List Branch = reverse c.self.inside.trail.items in
    let after : List Branch = reverse c.go_down.new.trail.items in
    let opened : c.self.inside.is_open ≡ true = is_open c.self.inside.is_open box before c.args.self.now c.self.view_is c.requires.some in
    let boxes : c.args.self.now.boxes ≡ box ∷ waiting box before = boxes_are c.self.inside.is_open box before c.args.self.now c.self.view_is c.requires.some in
    let genuine : IsGenuine box c.args.arc c.args.cut = subst (λ (x : Box). IsGenuine x c.args.arc c.args.cut) (first_is c.self.inside.is_open box before c.args.self.now c.self.view_is c.requires.some) c.requires.genuine in
    on_ok_weaker c.go_down.result
    (λ (is : IsLowBranch box c.args.arc c.args.cut c.go_down.new.first before after).
    let parts : waiting c.go_down.new.first after ≡ high_part box c.args.arc c.args.cut ∷ waiting box before = down_boxes box c.args.arc c.args.cut genuine c.go_down.new.first before after is in
    ap (λ (b : Bool). open_boxes b c.go_down.new.first after) opened
    ∙ ap (λ (x : Box). x ∷ waiting c.go_down.new.first after) is.first
    ∙ ap (λ (bs : List Box). low_part box c.args.arc c.args.cut ∷ bs) parts
    ∙ sym (ap (opened_by (Split c.args.arc c.args.cut)) boxes))
    c.go_down.ensures.ok
