use Rattle.std.proofs.Common.{drop, Ok, Err, sym, ap, ◌∙◌, rules}
use Rattle.std.proofs.lemmas.Result.{err_from_is_err_and}
use Rattle.label.specs.Identifiers.{bad_identifier}
use Rattle.label.proofs.IdentifierLaws as identifier-laws
use Rattle.reading.specs.Reading.{identified}
use Rattle.reading.proofs.Walks.{data_at_lem, identified_err}
use Rattle.reading.proofs.opening.read_identifier.Goals as goal

pub returns-in_err-check_identifier : goal.returns-in_err-check_identifier
returns-in_err-check_identifier g c =
    let e = err_from_is_err_and c.from_residual-in_err-check_identifier.result c.from_residual-in_err-check_identifier.ensures.1 in
    let p = c.in_ok-packet.packet in
    let f = c.in_err-check_identifier.ensures in
    let wrong = identified_err 3 (bad_identifier p) (λ z. f.0 (identifier-laws.same p (search rules) z)) in
    e.1 ∙ ap Err e.2 ∙ data_at_lem (λ k q. identified k (bad_identifier q)) 3 (drop 3 (g.C.Carrier.cells c.args.carrier.now)) p (Err _) c.in_ok-packet.ensures (ap Err f.1 ∙ sym wrong)

pub returns : goal.returns
returns g c =
    let right = ap (λ v. identified 3 (bad_identifier v)) c.in_ok-check_identifier.ensures ∙ ap (identified 3) identifier-laws.none in
    data_at_lem (λ k q. identified k (bad_identifier q)) 3 (drop 3 (g.C.Carrier.cells c.args.carrier.now)) _ (Ok tt) c.in_ok-packet.ensures (sym right)
