-- What the simulation of statements needs of a program and its code.
use Rattle.std.specs.Prelude.{◌≡◌, is_some, Option, Some, List, map, slice_get}
use Rattle.rev_num.specs.declared.value.Value.{Value}
use Rattle.name_tables.specs.Names.{Name}
use Rattle.typed_programs.specs.Value.{funs_of}
use Rattle.typed_programs.specs.Definitions.{funs_in}
use Rattle.typed_programs.specs.Kinds.{Callee}
use Rattle.typed_programs.specs.Layout.{SharedVariable, variables, procedures}
use Rattle.revision_calculus.specs.Program.{variable_named, procedure_named, Setting}
use Rattle.revision_calculus.specs.Step.{frame_of}
use Rattle.revision_calculus.specs.Kinded.{names}
use Rattle.rev_code.specs.declared.code.BlockClass.TheVariants as class
use Rattle.rev_code.specs.declared.code.CodeBlock.{CodeBlock}
use Rattle.rev_code.specs.Variables.{place_from}
use Rattle.rev_code.specs.Step.{params, first_locals}
use Rattle.code_generation.specs.Generated.{var_of, kinds_of}
use Rattle.expression_meaning.specs.Agrees.{word, ArgsAre, FunReads}
use Rattle.expression_meaning.specs.Places.{Tables}
use Rattle.expression_meaning.specs.States.{IsTop}

module _ (s : Setting) (g : Tables) where
  -- the block of a procedure, and what stands in it when it begins
  pub record IsProc (name : Name) (q : Callee) : Type 0 where
    pub block : CodeBlock
    pub is : slice_get g.setting.code.blocks (g.numbers.proc name) ≡ Some block
    pub class : block.class ≡ class.Proc
    pub result : block.result ≡ q.result
    pub params : params block ≡ kinds_of q.params
    pub begins : (xs : List Value) (left : Option Name) → ArgsAre q.params xs
        → IsTop s g block (frame_of (procedure_named (procedures s.program) name) xs left) 0
        (first_locals block (map word xs))

  pub record IsLinked : Type 0 where
    pub vars : (name : Name) (x : SharedVariable) → variable_named (variables s.program) name ≡ Some x
        → place_from 0 g.setting.code.vars (g.numbers.var name)
        ≡ Some (record { var = var_of s.program.declarations x; first = x.info.base })
    pub funs : (name : Name) (f : Callee) → (names s).funs name ≡ Some f
        → FunReads g.setting (g.numbers.fun name) f (funs_of (funs_in s.program) name)
    pub procs : (name : Name) (q : Callee) → (names s).procs name ≡ Some q → IsProc name q
    pub gives : (name : Name) (q : Callee) → (names s).procs name ≡ Some q → g.numbers.gives name ≡ is_some q.result
    pub share : g.setting.share ≡ s.share
    pub inputs : g.setting.inputs ≡ s.inputs
