use Rattle.std.proofs.Common.{Some, true, false, not, position, ap, sym, ◌∙◌}
use Rattle.std.specs.List.{list_any}
use Rattle.std.specs.Str.{bytes_eq}
use Rattle.std.specs.String.{string_bytes}
use Rattle.cn_net.specs.Numbered.{texts}
use Rattle.cn_net.specs.declared.fault.NetFault.TheVariants.{UnknownName}
use Rattle.cn_net.proofs.First.{found, found_none}
use Rattle.cn_net.proofs.Places.{is_borne, place_some}
use Rattle.cn_net.proofs.make.number_of.Goals as goal

pub returns-in-Some-clause-ok : goal.returns-in-Some-clause-ok
returns-in-Some-clause-ok c =
    let keys = c.args.names.now.keys in
    let found = c.in-Some.ensures.index
    ∙ ap (λ name. position (λ k. bytes_eq name (string_bytes k)) keys) c.text.ensures in
    let at = place_some keys c.args.name.now c.in-Some.place found in
    λ j. record { 0 = at.0 j }

pub returns-in-Some-clause-within : goal.returns-in-Some-clause-within
returns-in-Some-clause-within c =
    let keys = c.args.names.now.keys in
    let found = c.in-Some.ensures.index
    ∙ ap (λ name. position (λ k. bytes_eq name (string_bytes k)) keys) c.text.ensures in
    (place_some keys c.args.name.now c.in-Some.place found).1

pub returns-in-Some-clause-first : goal.returns-in-Some-clause-first
returns-in-Some-clause-first c =
    let keys = c.args.names.now.keys in
    let name = c.args.name.now in
    found_none (not (list_any (bytes_eq name) (texts keys))) (UnknownName name)
    (ap not
    (is_borne keys name true
    (c.in-Some.ensures.found
    ∙ ap (λ n. list_any (λ k. bytes_eq n (string_bytes k)) keys) c.text.ensures)))

pub returns-in_ok-name-in-None-clause-first : goal.returns-in_ok-name-in-None-clause-first
returns-in_ok-name-in-None-clause-first c =
    let keys = c.args.names.now.keys in
    let name = c.args.name.now in
    found (not (list_any (bytes_eq name) (texts keys))) (UnknownName name)
    (ap not
    (is_borne keys name false
    (c.in-None.ensures.found
    ∙ ap (λ n. list_any (λ k. bytes_eq n (string_bytes k)) keys) c.text.ensures)))
    ∙ ap (λ n. Some (UnknownName n)) (sym c.in_ok-name-in-None.ensures)
