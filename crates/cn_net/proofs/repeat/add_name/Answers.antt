use Rattle.std.proofs.Common.{Some, ◌∙◌, ap, sym}
use Rattle.std.specs.List.{list_any}
use Rattle.std.specs.Str.{bytes_eq}
use Rattle.cn_net.specs.Numbered.{texts}
use Rattle.cn_net.specs.declared.fault.NetFault.TheVariants.{DuplicateName}
use Rattle.cn_net.proofs.First.{found, found_none}
use Rattle.cn_net.proofs.Places.{name_fresh, name_pushed, name_stood}
use Rattle.cn_net.proofs.repeat.add_name.Goals as goal

pub returns-then-not-is_new-clause-first : goal.returns-then-not-is_new-clause-first
returns-then-not-is_new-clause-first c =
    found (list_any (bytes_eq c.args.name.now) (texts c.args.names.now.keys))
    (DuplicateName c.args.name.now)
    (name_stood c.args.names.now.keys c.in_ok-from_str.field-0 c.args.name.now c.in_ok-is_new.is_new
    (c.in_ok-from_str.ensures.ok ∙ c.text.ensures) c.in_ok-is_new.ensures.added
    c.if-not-is_new.true)
    ∙ ap (λ n. Some (DuplicateName n)) (sym c.in_ok-name.ensures)

pub returns-clause-ok : goal.returns-clause-ok
returns-clause-ok c =
    name_pushed c.args.names.now.keys c.insert.new.self.keys c.in_ok-from_str.field-0
    c.args.name.now c.in_ok-is_new.is_new (c.in_ok-from_str.ensures.ok ∙ c.text.ensures)
    c.in_ok-is_new.ensures.added c.in_ok-is_new.ensures.keys c.if-not-is_new.false

pub returns-clause-first : goal.returns-clause-first
returns-clause-first c =
    found_none (list_any (bytes_eq c.args.name.now) (texts c.args.names.now.keys))
    (DuplicateName c.args.name.now)
    (name_fresh c.args.names.now.keys c.in_ok-from_str.field-0 c.args.name.now c.in_ok-is_new.is_new
    (c.in_ok-from_str.ensures.ok ∙ c.text.ensures) c.in_ok-is_new.ensures.added
    c.if-not-is_new.false)
