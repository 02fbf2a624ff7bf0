use Rattle.std.proofs.Common.{◌++◌, ℕ, List, ◌∙◌, ap, sym}
use Rattle.std.specs.List.{flat_map}
use Rattle.change_directory.specs.Logs.{bytes_of_page}
use Rattle.change_directory.proofs.Gathering.{body_is_bytes}
use Rattle.change_directory.proofs.head.fill_body.Goals as goal

pub returns : goal.returns
returns c =
    c.put_body.ensures ∙ ap (λ (l : List ℕ). l ++ flat_map bytes_of_page c.args.pages.now) c.encode_head.ensures ∙ sym (body_is_bytes c.args.number c.args.pages.now)
