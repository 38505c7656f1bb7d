-- A fault of compiling or want of memory, as a fault of a command's work.
use Rattle.std.proofs.Common.{◌≡◌, ℕ, refl, sym, subst, inl, Result, Ok, Err, IsErrAnd}
use Rattle.packing_laws.specs.Instances.{InstanceValue}
use Rattle.arc_compile.specs.declared.results.CompileFault.{CompileFault}
use Rattle.arc_compile.specs.declared.results.CompileFault.TheVariants as compile
use Rattle.arc_compile.specs.Graphs.{IsTooLarge}
use Rattle.command_words.specs.Requests.{Request, MakesGraphs}
use Rattle.arc_program.specs.declared.commands.Report.{Report}
use Rattle.arc_program.specs.declared.commands.WorkFault.{WorkFault}
use Rattle.arc_program.specs.declared.commands.WorkFault.TheVariants as work
use Rattle.arc_program.specs.World.{ShelfSeen}
use Rattle.arc_program.specs.inner.Work.{IsWorkFault, Works}

module _ (request : Request) (I : InstanceValue) (shelf : ShelfSeen) where
  -- where compiling found too many arcs, the graphs are too large
  compile_fault : (cause : CompileFault) (fault : WorkFault) → MakesGraphs request → IsWorkFault cause fault → ((t : ℕ) → cause ≡ compile.TooManyArcs t → IsTooLarge I t) → Works request I shelf shelf (Err fault)
  compile_fault (compile.TooManyArcs s) fault makes is large = subst (λ (f : WorkFault). Works request I shelf shelf (Err f)) (sym is) (makes, large s refl, refl)
  compile_fault compile.Memory fault makes is large = subst (λ (f : WorkFault). Works request I shelf shelf (Err f)) (sym is) (inl refl)

  pub works_not : (cause : CompileFault) (r : Result Report WorkFault) → MakesGraphs request → IsErrAnd r (IsWorkFault cause) → ((t : ℕ) → cause ≡ compile.TooManyArcs t → IsTooLarge I t) → Works request I shelf shelf r
  works_not cause (Ok report) makes here large = absurd here
  works_not cause (Err fault) makes here large = compile_fault cause fault makes here large

  pub works_starved : (r : Result Report WorkFault) → IsErrAnd r (λ fault. fault ≡ work.Memory) → Works request I shelf shelf r
  works_starved (Ok report) here = absurd here
  works_starved (Err fault) here = subst (λ (f : WorkFault). Works request I shelf shelf (Err f)) (sym here) (inl refl)
