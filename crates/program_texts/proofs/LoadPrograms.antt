-- The text of `load` is a program that keeps all rules.
use Rattle.std.proofs.Common.{◌≡◌, [], length, refl, sym, subst, arith}
use Rattle.rev_syntax.specs.Tokens.{Leads, array_size, IsTokens}
use Rattle.rev_syntax.proofs.Reading.{leads-within}
use Rattle.rev_parse.specs.Verdicts.{IsProgram}
use Rattle.rev_parse.proofs.OfAnswer.{whole_program}
use Rattle.rev_parse.proofs.SmallPrograms.{program_small}
use Rattle.typed_programs.proofs.Accepting.{well_typed}
use Rattle.static_rules.proofs.FunFaults.{funs_kept}
use Rattle.rev_words.specs.Load as load
use Rattle.rev_words.proofs.Loads.{load_text-short}
use Rattle.program_texts.specs.Laws.{LoadMakesPrograms}
use Rattle.program_texts.proofs.Chunks.{pieces_of, text_of, all_leads, tokens_in, tokens_of_all, HasIn, has_pieces, has_in}
use Rattle.program_texts.proofs.LoadChunks.{all_chunks, all_cut, lines_from, whole_text}
use Rattle.program_texts.proofs.LoadRules.{tree, no_faults, no_fun_faults}
use Rattle.program_texts.proofs.LoadParses.{places, read_program}

pub load_programs : LoadMakesPrograms
load_programs seed size least most =
    let xs = lines_from seed in
    let cs = all_chunks seed size in
    let bytes = load.load_text seed size in
    let is : bytes ≡ text_of cs = whole_text seed size in
    let leads : Leads (pieces_of cs) bytes [] =
    subst (λ v. Leads (pieces_of cs) v []) (sym is) (all_leads cs (all_cut seed size most)) in
    let has : HasIn bytes 0 cs = has_in bytes 0 cs (has_pieces (pieces_of cs) [] bytes [] leads) in
    let ts = tokens_in 0 cs [] in
    let whole : length bytes ≡ array_size (pieces_of cs) =
    let l = leads-within (pieces_of cs) bytes [] leads in omega (arith, l) in
    let cut : IsTokens bytes ts =
    record { pieces = pieces_of cs; leads = leads; place = whole; tokens = sym (tokens_of_all 0 cs) } in
    let p = tree bytes size (places bytes size xs) xs in
    let parsed : IsProgram bytes ts p = whole_program bytes ts p [] (read_program bytes size xs has 196) refl in
    let small = program_small bytes ts p parsed cut (load_text-short seed size (omega (arith, most))) in
    let funs = no_fun_faults bytes size (places bytes size xs) xs in
    record {
      tokens = ts;
      cut = cut;
      tree = p;
      parsed = parsed;
      funs = (funs_kept p).0 funs;
      typed = well_typed p small funs (no_faults bytes size (places bytes size xs) xs);
    }
