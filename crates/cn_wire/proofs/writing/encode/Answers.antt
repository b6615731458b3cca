use Rattle.std.proofs.Common.{subst, rules, ◌≡◌}
use Rattle.cn_wire.specs.Writing.{spelled_prefixes, spelled_attrs, ArePrefixes, IsUpdate}
use Rattle.cn_wire.proofs.Written.{encoded}
use Rattle.cn_wire.proofs.writing.encode.Goals as goal

pub returns : goal.returns
returns c =
    let w : ArePrefixes c.args.update.now.withdrawn =
    subst ArePrefixes c.items.ensures c.in_ok-put_prefixes.ensures.1 in
    let n : ArePrefixes c.args.update.now.announced =
    subst ArePrefixes c.items-2.ensures c.in_ok-put_prefixes-2.ensures.1 in
    let is : IsUpdate c.args.update.now =
    record { withdrawn = w; attrs = c.in_ok-put_attrs.ensures.1; announced = n } in
    let g : c.deref.result.now ≡ spelled_prefixes c.args.update.now.withdrawn = search rules in
    let a : c.deref-2.result.now ≡ spelled_attrs c.args.update.now.attrs = search rules in
    let k : c.deref-3.result.now ≡ spelled_prefixes c.args.update.now.announced = search rules in
    encoded c.args.update.now c.put_message.new.out.items c.new-out.result.items c.deref.result.now
    c.deref-2.result.now c.deref-3.result.now c.in_ok-put_message.ensures c.new-out.ensures.items g
    a k is c.requires
