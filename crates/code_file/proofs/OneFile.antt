-- One file, one code; and no code where there is a fault.
use Rattle.std.proofs.Common.{◌≡◌, ◌≢◌, ◌∙◌, ℕ, List, [], length, refl, sym, ap}
use Rattle.std.specs.Prelude.{Result, Ok, Err, IfOk, IfErr}
use Rattle.code_file.specs.declared.fault.ReadFault.{ReadFault}
use Rattle.code_file.specs.declared.fault.ReadFault.TheVariants as fault
use Rattle.rev_code.specs.declared.code.Code.{Code}
use Rattle.code_file.specs.Fields.{Got, Failed, Follows}
use Rattle.code_file.specs.Reads.{file, reading}
use Rattle.code_file.specs.Laws.{IsFile, OneCode, ReadsBack, FaultsHaveNoCode}

of_file : ReadsBack → (code : Code) (bytes : List _) → IsFile code bytes → reading bytes ≡ Got code []
of_file back code bytes is = ap reading is.spelled ∙ back code is.has

same_got : (a b : Code) → Got a [] ≡ Got b [] → a ≡ b
same_got a b e = cc

pub one_code : ReadsBack → OneCode
one_code back code code' bytes is is' =
    same_got code code' (sym (of_file back code bytes is) ∙ of_file back code' bytes is')

pub no_code : ReadsBack → FaultsHaveNoCode
no_code back bytes f code fault is =
    let e : Failed f ≡ Got code [] = sym fault ∙ of_file back code bytes is in
    cc

-- ---- what a reader of a whole file answers, where the bytes are the file of a code

pub that_code : ReadsBack → (bytes : List ℕ) (result : Result Code ReadFault) → IfOk result (λ c. IsFile c bytes)
    → (code : Code) → IsFile code bytes → IfOk result (λ c. c ≡ code)
that_code back bytes (Ok c) each code is = one_code back c code bytes each is
that_code back bytes (Err f) each code is = tt

is_memory : (f : ReadFault) → (f ≢ fault.OutOfMemory → ⊥) → f ≡ fault.OutOfMemory
is_memory fault.OutOfMemory h = refl
is_memory fault.BadMagic h = absurd (h (λ e. absurd (cc)))
is_memory fault.BadVersion h = absurd (h (λ e. absurd (cc)))
is_memory (fault.Truncated at) h = absurd (h (λ e. absurd (cc)))
is_memory (fault.BadField at) h = absurd (h (λ e. absurd (cc)))
is_memory (fault.Trailing at) h = absurd (h (λ e. absurd (cc)))

pub no_fault_but_memory : ReadsBack → (bytes : List ℕ) (result : Result Code ReadFault) (whole : ℕ) (rest left : List ℕ)
    →
    whole ≡ length bytes → rest ≡ bytes → Follows (file whole rest) result left → (code : Code) → IsFile code bytes
    → IfErr result (λ f. f ≡ fault.OutOfMemory)
no_fault_but_memory back bytes (Ok c) whole rest left a b follows code is = tt
no_fault_but_memory back bytes (Err f) whole rest left a b follows code is =
    is_memory f (λ other.
    no_code back bytes f code (ap (λ w. file w bytes) (sym a) ∙ ap (λ r. file whole r) (sym b) ∙ follows other) is)
