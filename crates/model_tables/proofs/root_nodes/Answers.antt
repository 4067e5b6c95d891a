-- `model_tables::root_nodes` meets its contract: the tables stand for the model of the file.
-- Assumes nothing.
use Rattle.std.proofs.Common.{rules, arith}
use Rattle.nodeset.specs.Stored.{table_bytes, has_zeros}
use Rattle.relations.specs.Tables.{model_rows, alike_rows}
use Rattle.model_tables.specs.Stands.{stands}
use Rattle.model_tables.proofs.root_nodes.Goals as goal

pub tabulate-requires : goal.tabulate-requires
tabulate-requires c = record {
  p_value = c.requires.p_value;
  valid_model = c.requires.valid_model;
  names_listed = c.requires.names_listed;
  by_index = λ i u. has_zeros (table_bytes model_rows) i u;
}

pub tabulate_values-requires : goal.tabulate_values-requires
tabulate_values-requires c = record {
  p_value = c.requires.p_value;
  valid_model = c.requires.valid_model;
  by_index = λ i u. has_zeros (table_bytes alike_rows) i u;
}

pub root_nodes-requires : goal.root_nodes-requires
root_nodes-requires c =
    let n = c.node_count in record {
      lent = record {
        read = c.requires.p_value;
        table_long = search rules;
        alike_long = search rules;
        narrow = omega (arith, n.ensures, c.requires.valid_model.header.narrow);
        some_node = omega (arith, n.ensures, c.requires.valid_model.header.some_node);
        stands = ∣ stands c.args.p.now c.requires.valid_model _ _ n.result n.ensures c.tabulate.ensures c.tabulate_values.ensures ∣₁;
      };
      area_len = c.requires.work_len;
    }

pub returns : goal.returns
returns c =
    let n = c.node_count in record {
      nodes = c.root_nodes.ensures.root (stands c.args.p.now c.requires.valid_model _ _ n.result n.ensures c.tabulate.ensures c.tabulate_values.ensures);
      work = c.root_nodes.ensures.area;
    }
