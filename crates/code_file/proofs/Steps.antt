-- Steps of reading.
use Rattle.std.proofs.Common.{◌≡◌, ◌≢◌, ℕ, suc, ◌+◌, ◌-◌, ◌<◌, ◌≤◌, List, [], ◌∷◌, ◌++◌, ap, sym, ◌∙◌, arith}
use Rattle.code_file.specs.Fields.{Reading, Got, Failed, Field, and_then, go_on, more}
use Rattle.code_file.specs.declared.fault.ReadFault.{ReadFault}
use Rattle.code_file.specs.declared.fault.ReadFault.TheVariants as fault
use Rattle.rev_code.specs.declared.code.CodeVar.{CodeVar}
use Rattle.code_rules.specs.Tables.{locations}
use Rattle.std.specs.List.{sum_by}
use Rattle.std.proofs.lemmas.List.Sums.{sum-map, sum_by-append}

-- one part more of those that are left
pub more_on : {A : Type 0} (part : List A → Field A) (done : List A) (whole : ℕ) (bytes rest : List ℕ) (a : A) (i m : ℕ)
    →
    i < m → part done whole bytes ≡ Got a rest →
    more (m - i) part done whole bytes ≡ more (m - (i + 1)) part (done ++ (a ∷ [])) whole rest
unfolding more
more_on part done whole bytes rest a i m lt e =
    let s : m - i ≡ suc (m - (i + 1)) = omega arith in
    ap (λ n. more n part done whole bytes) s
    ∙ ap (λ r. go_on r (λ x. more (m - (i + 1)) part (done ++ (x ∷ []))) whole) e

pub more_stop : {A : Type 0} (part : List A → Field A) (done : List A) (whole : ℕ) (bytes : List ℕ) (f : ReadFault)
    (i m : ℕ)
    →
    i < m → part done whole bytes ≡ Failed f → more (m - i) part done whole bytes ≡ Failed f
unfolding more
more_stop part done whole bytes f i m lt e =
    let s : m - i ≡ suc (m - (i + 1)) = omega arith in
    ap (λ n. more n part done whole bytes) s
    ∙ ap (λ r. go_on r (λ x. more (m - (i + 1)) part (done ++ (x ∷ []))) whole) e

pub more_end : {A : Type 0} (part : List A → Field A) (done : List A) (whole : ℕ) (bytes : List ℕ) (i m : ℕ) →
    m ≤ i → more (m - i) part done whole bytes ≡ Got done bytes
unfolding more
more_end part done whole bytes i m le =
    let s : m - i ≡ 0 = omega arith in
    ap (λ n. more n part done whole bytes) s

pub more_all : {A : Type 0} (part : List A → Field A) (done : List A) (whole : ℕ) (bytes : List ℕ) (m : ℕ) →
    more m part done whole bytes ≡ more (m - 0) part done whole bytes
more_all part done whole bytes m = ap (λ n. more n part done whole bytes) (let e : m ≡ m - 0 = omega arith in e)

-- the locations of one variable more
pub locations_push : (vars : List CodeVar) (v : CodeVar) → locations (vars ++ (v ∷ [])) ≡ locations vars + v.cells
locations_push vars v =
    sum-map (λ (x : CodeVar). x.cells) (vars ++ (v ∷ []))
    ∙ sum_by-append (λ (x : CodeVar). x.cells) vars (v ∷ [])
    ∙ ap (λ n. sum_by (λ (x : CodeVar). x.cells) vars + n)
    (let e : sum_by (λ (x : CodeVar). x.cells) (v ∷ []) ≡ v.cells = omega arith in e)
    ∙ ap (λ n. n + v.cells) (sym (sum-map (λ (x : CodeVar). x.cells) vars))

-- a number of parts: one of them is at fault
pub list_stop : {A : Type 0} (number : Field ℕ) (part : List A → Field A) (done : List A) (whole whole' : ℕ)
    (bytes behind rest : List ℕ) (i m : ℕ) (f : ReadFault)
    →
    number whole bytes ≡ Got m behind → more m part [] whole behind ≡ more (m - i) part done whole' rest → i < m →
    (f ≢ fault.OutOfMemory → part done whole' rest ≡ Failed f) →
    f ≢ fault.OutOfMemory → and_then number (λ count. more count part []) whole bytes ≡ Failed f
unfolding and_then
list_stop number part done whole whole' bytes behind rest i m f e inv lt h known =
    ap (λ r. go_on r (λ count. more count part []) whole) e ∙ inv ∙ more_stop part done whole' rest f i m lt (h known)

-- all of them are read
pub list_read : {A : Type 0} (number : Field ℕ) (part : List A → Field A) (done : List A) (whole whole' : ℕ)
    (bytes behind rest : List ℕ) (i m : ℕ)
    →
    number whole bytes ≡ Got m behind → more m part [] whole behind ≡ more (m - i) part done whole' rest → m ≤ i →
    and_then number (λ count. more count part []) whole bytes ≡ Got done rest
unfolding and_then
list_read number part done whole whole' bytes behind rest i m e inv le =
    ap (λ r. go_on r (λ count. more count part []) whole) e ∙ inv ∙ more_end part done whole' rest i m le

-- one part more is read
pub list_turn : {A : Type 0} (part : List A → Field A) (done done' : List A) (all : Reading (List A)) (whole whole' : ℕ)
    (rest rest' : List ℕ) (a : A) (i m : ℕ)
    →
    all ≡ more (m - i) part done whole rest → i < m → part done whole rest ≡ Got a rest' → whole' ≡ whole
    → done' ≡ done ++ (a ∷ []) →
    all ≡ more (m - (i + 1)) part done' whole' rest'
list_turn part done done' all whole whole' rest rest' a i m inv lt e same pushed =
    inv ∙ more_on part done whole rest rest' a i m lt e
    ∙ ap (λ w. more (m - (i + 1)) part (done ++ (a ∷ [])) w rest') (sym same)
    ∙ ap (λ d. more (m - (i + 1)) part d whole' rest') (sym pushed)

-- the steps of a loop that reads parts
pub ruleset list_steps = (more_on, more_stop, more_end, more_all)
